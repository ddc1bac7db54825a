use Rattle.rinda_rules.proofs.Settling.{reached}
use Rattle.rinda_rules.proofs.laws.legal_is_settled.Goals as goal

pub returns : goal.returns
returns c s h sound settled legal = let both = reached s h sound settled legal in (both.sound, both.settled)
