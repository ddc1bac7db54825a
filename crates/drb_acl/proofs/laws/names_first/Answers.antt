use Rattle.drb_acl.proofs.FirstLines.{first}
use Rattle.drb_acl.proofs.laws.names_first.Goals as goal

pub returns : goal.returns
returns c = first
