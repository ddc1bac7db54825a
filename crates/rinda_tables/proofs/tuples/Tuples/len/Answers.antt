use Rattle.rinda_tables.proofs.tuples.Tuples.len.Goals as goal

pub returns : goal.returns
returns c = rw (← c.self.view_is) c.self.invariant.counted
