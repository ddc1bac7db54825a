use Rattle.drb_acl.proofs.Judgings.{admits}
use Rattle.drb_acl.proofs.laws.admits_exactly.Goals as goal

pub returns : goal.returns
returns c = admits
