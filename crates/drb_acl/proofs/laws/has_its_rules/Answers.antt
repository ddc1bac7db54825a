use Rattle.drb_acl.proofs.FirstLines.{kept}
use Rattle.drb_acl.proofs.laws.has_its_rules.Goals as goal

pub returns : goal.returns
returns c = kept
