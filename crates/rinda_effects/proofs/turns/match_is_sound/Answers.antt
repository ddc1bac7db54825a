use Rattle.rinda_effects.proofs.Touching.{match_is_sound}
use Rattle.rinda_effects.proofs.turns.match_is_sound.Goals as goal

pub returns : goal.returns
returns c s caller id r pick sound chooses match = match_is_sound s caller id r pick sound chooses match
