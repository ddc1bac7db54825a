use Rattle.rinda_effects.proofs.Making.{event_makes_turn}
use Rattle.rinda_effects.proofs.turns.event_makes_turn.Goals as goal

pub returns : goal.returns
returns c start old caller at event h = event_makes_turn start old caller at event h
