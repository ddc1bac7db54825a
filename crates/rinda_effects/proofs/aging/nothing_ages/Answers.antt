use Rattle.rinda_effects.proofs.Aged.{nothing_ages}
use Rattle.rinda_effects.proofs.aging.nothing_ages.Goals as goal

pub returns : goal.returns
returns c s e = nothing_ages s e
