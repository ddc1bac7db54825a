use Rattle.rinda_effects.proofs.Making.{lone_makes_turn}
use Rattle.rinda_effects.proofs.turns.lone_makes_turn.Goals as goal

pub returns : goal.returns
returns c start old caller at event id h lone = lone_makes_turn start old caller at event id h lone
