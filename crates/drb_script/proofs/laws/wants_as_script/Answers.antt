use Rattle.drb_script.proofs.Standing.{stands_turn, stands_call}
use Rattle.drb_script.proofs.laws.wants_as_script.Goals as goal

pub returns : goal.returns
returns c = record { turns = stands_turn; calls = stands_call }
