use Rattle.rinda_effects.proofs.Touching.{event_touches_one}
use Rattle.rinda_effects.proofs.turns.event_touches_one.Goals as goal

pub returns : goal.returns
returns c s caller at event sound settled chooses = event_touches_one s caller at event sound settled chooses
