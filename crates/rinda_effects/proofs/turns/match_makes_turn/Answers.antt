use Rattle.rinda_effects.proofs.Making.{match_makes_turn}
use Rattle.rinda_effects.proofs.turns.match_makes_turn.Goals as goal

pub returns : goal.returns
returns c start old caller at id r pick h chooses match = match_makes_turn start old caller at id r pick h chooses match
