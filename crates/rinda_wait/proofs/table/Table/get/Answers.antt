use Rattle.std.proofs.Common.{◌∙◌}
use Rattle.rinda_wait.proofs.Listed.{lookup-row}
use Rattle.rinda_wait.proofs.table.Table.get.Goals as goal

pub returns : goal.returns
returns c = c.get.ensures.value ∙ rw (← c.self.view_is) (lookup-row c.args.id c.self.inside.map.entries c.self.invariant.keyed)
