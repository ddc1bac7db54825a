use Rattle.rinda_effects.proofs.Touching.{match_touches_none}
use Rattle.rinda_effects.proofs.turns.match_touches_none.Goals as goal

pub returns : goal.returns
returns c s caller at id r pick sound settled chooses match = match_touches_none s caller at id r pick sound settled chooses match
