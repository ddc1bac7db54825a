use Rattle.rinda_bag.proofs.Listed.{table-tried, values-inserted}
use Rattle.rinda_bag.proofs.rows.Rows.put.Goals as goal

pub invariant_of-self : goal.invariant_of-self
invariant_of-self c = table-tried c.insert.result c.self.inside.map.entries _ c.args.row c.self.invariant (rw c.self.view_is c.requires) c.insert.ensures.entries c.insert.ensures.err

pub returns-in-Ok-clause-ok : goal.returns-in-Ok-clause-ok
returns-in-Ok-clause-ok c = rw (← c.self.view_is) (rw c.in-Ok.ensures.entries (values-inserted c.self.inside.map.entries c.args.row c.self.invariant (rw c.self.view_is c.requires)))
