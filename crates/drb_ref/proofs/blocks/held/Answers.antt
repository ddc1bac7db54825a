use Rattle.std.proofs.Common.{sym, ap, ◌∙◌}
use Rattle.drb_value.specs.declared.Node.TheVariants.{Dumped}
use Rattle.drb_ref.proofs.Held.{held_is, not_held}
use Rattle.drb_ref.proofs.blocks.held.Goals as goal

pub returns-in-Dumped : goal.returns-in-Dumped
returns-in-Dumped c = held_is c.held_by.result c.v.inside.node c.get.result.now c.args.v.now c.v.view_is (c.in-Dumped.is ∙ ap Dumped (sym c.get.ensures)) c.held_by.ensures

pub returns-in_default : goal.returns-in_default
returns-in_default c = not_held c.v.inside.node c.args.v.now c.v.view_is c.in_default.not-Dumped
