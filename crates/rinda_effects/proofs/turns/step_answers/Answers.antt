use Rattle.rinda_effects.proofs.Touching.{step_answers}
use Rattle.rinda_effects.proofs.turns.step_answers.Goals as goal

pub returns : goal.returns
returns c s caller at event out picks s' sound step = step_answers s caller at event out picks s' sound step
