use Rattle.rinda_rules.proofs.Sounding.{sound_opening}
use Rattle.rinda_rules.proofs.Settling.{settled_opening}
use Rattle.rinda_rules.proofs.laws.opening_is_settled.Goals as goal

pub returns : goal.returns
returns c = (sound_opening, settled_opening)
