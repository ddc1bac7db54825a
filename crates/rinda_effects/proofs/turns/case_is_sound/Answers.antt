use Rattle.rinda_effects.proofs.Touching.{case_is_sound}
use Rattle.rinda_effects.proofs.turns.case_is_sound.Goals as goal

pub returns : goal.returns
returns c s caller event sound = case_is_sound s caller event sound
