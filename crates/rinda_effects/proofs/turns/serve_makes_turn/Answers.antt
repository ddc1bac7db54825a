use Rattle.rinda_effects.proofs.Making.{serve_makes_turn}
use Rattle.rinda_effects.proofs.turns.serve_makes_turn.Goals as goal

pub returns : goal.returns
returns c start old caller at event r t h there here e = serve_makes_turn start old caller at event r t h there here e
