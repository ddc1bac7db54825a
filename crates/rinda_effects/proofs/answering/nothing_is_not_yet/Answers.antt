use Rattle.rinda_effects.proofs.NotYet.{nothing_is_not_yet}
use Rattle.rinda_effects.proofs.answering.nothing_is_not_yet.Goals as goal

pub returns : goal.returns
returns c s caller at event choice sound = nothing_is_not_yet s caller at event choice sound.answers
