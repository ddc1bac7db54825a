use Rattle.drb_script.proofs.Standing.{stands_reply}
use Rattle.drb_script.proofs.laws.replies_as_script.Goals as goal

pub returns : goal.returns
returns c = stands_reply
