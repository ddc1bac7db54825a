use Rattle.rinda_effects.proofs.Making.{reached_is_settled}
use Rattle.rinda_effects.proofs.turns.reached_is_settled.Goals as goal

pub returns : goal.returns
returns c start turns h = reached_is_settled start turns h
