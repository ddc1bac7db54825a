use Rattle.rinda_effects.proofs.Making.{opening_is_reached}
use Rattle.rinda_effects.proofs.turns.opening_is_reached.Goals as goal

pub returns : goal.returns
returns c turns legal = opening_is_reached turns legal
