use Rattle.std.proofs.Common.{◌∙◌}
use Rattle.rinda_bag.proofs.Listed.{lookup-row}
use Rattle.rinda_bag.proofs.rows.Rows.get.Goals as goal

pub returns : goal.returns
returns c = c.get.ensures.value ∙ rw (← c.self.view_is) (lookup-row c.args.id c.self.inside.map.entries c.self.invariant.keyed)
