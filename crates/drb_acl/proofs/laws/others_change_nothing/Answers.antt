use Rattle.drb_acl.proofs.Judgings.{others}
use Rattle.drb_acl.proofs.laws.others_change_nothing.Goals as goal

pub returns : goal.returns
returns c = others
