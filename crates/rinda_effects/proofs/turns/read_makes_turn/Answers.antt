use Rattle.rinda_effects.proofs.Making.{read_makes_turn}
use Rattle.rinda_effects.proofs.turns.read_makes_turn.Goals as goal

pub returns : goal.returns
returns c start old caller at event t ids h here readers free = read_makes_turn start old caller at event t ids h here readers free
