use Rattle.rinda_tables.proofs.Backs.{find-all-ahead}
use Rattle.rinda_tables.proofs.tuples.Tuples.find_all.Goals as goal

pub returns : goal.returns
returns c = rw (← c.self.view_is, ← find-all-ahead c.self.inside.gone.items c.args.now c.args.pattern.now c.self.inside.bag c.self.invariant.marked) c.find_all.ensures
