use Rattle.rinda_effects.proofs.Touching.{found_is_sound}
use Rattle.rinda_effects.proofs.turns.found_is_sound.Goals as goal

pub returns : goal.returns
returns c s at sound = found_is_sound s at sound
