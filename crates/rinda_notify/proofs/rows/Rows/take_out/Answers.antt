use Rattle.rinda_notify.proofs.Listed.{table-removed, values-remove}
use Rattle.rinda_notify.proofs.rows.Rows.take_out.Goals as goal

pub invariant_of-self : goal.invariant_of-self
invariant_of-self c = rw c.remove.ensures.entries (table-removed c.args.id c.self.inside.map.entries c.self.invariant)

pub returns : goal.returns
returns c = rw (← c.self.view_is, c.remove.ensures.entries) (values-remove c.args.id c.self.inside.map.entries c.self.invariant.keyed c.self.invariant.rising)
