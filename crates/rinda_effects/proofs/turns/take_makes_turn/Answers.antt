use Rattle.rinda_effects.proofs.Making.{take_makes_turn}
use Rattle.rinda_effects.proofs.turns.take_makes_turn.Goals as goal

pub returns : goal.returns
returns c start old caller at event t ids r h here readers there e = take_makes_turn start old caller at event t ids r h here readers there e
