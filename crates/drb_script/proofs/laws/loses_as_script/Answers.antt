use Rattle.drb_script.proofs.Standing.{stands_lost}
use Rattle.drb_script.proofs.laws.loses_as_script.Goals as goal

pub returns : goal.returns
returns c = stands_lost
