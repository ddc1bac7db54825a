use Rattle.rinda_effects.proofs.Making.{step_makes_turn}
use Rattle.rinda_effects.proofs.turns.step_makes_turn.Goals as goal

pub returns : goal.returns
returns c start old turn s h something step = step_makes_turn start old turn s h something step
