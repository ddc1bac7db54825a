use Rattle.rinda_effects.proofs.Existing.{step_exists}
use Rattle.rinda_effects.proofs.turns.step_exists.Goals as goal

pub returns : goal.returns
returns c s caller at event sound settled = step_exists s caller at event sound settled
