use Rattle.drb_script.proofs.Standing.{one_reply}
use Rattle.drb_script.proofs.laws.one_reply.Goals as goal

pub returns : goal.returns
returns c = one_reply
