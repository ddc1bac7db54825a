use Rattle.rinda_effects.proofs.Making.{dead_makes_turn}
use Rattle.rinda_effects.proofs.turns.dead_makes_turn.Goals as goal

pub returns : goal.returns
returns c start old caller at event id h dead = dead_makes_turn start old caller at event id h dead
