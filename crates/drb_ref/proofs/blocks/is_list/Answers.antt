use Rattle.drb_ref.proofs.Held.{not_list}
use Rattle.drb_ref.proofs.blocks.is_list.Goals as goal

pub returns-in_default : goal.returns-in_default
returns-in_default c = not_list c.v.inside.node c.args.v.now c.v.view_is c.in_default.not-List
