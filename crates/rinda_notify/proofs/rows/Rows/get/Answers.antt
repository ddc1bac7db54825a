use Rattle.std.proofs.Common.{◌∙◌}
use Rattle.rinda_notify.proofs.Listed.{lookup-row}
use Rattle.rinda_notify.proofs.rows.Rows.get.Goals as goal

pub returns-clause-row : goal.returns-clause-row
returns-clause-row c = c.get.ensures.value ∙ rw (← c.self.view_is) (lookup-row c.args.id c.self.inside.map.entries c.self.invariant.keyed)
