use Rattle.rinda_effects.proofs.Single.{one_ages}
use Rattle.rinda_effects.proofs.aging.one_ages.Goals as goal

pub returns : goal.returns
returns c s id sound e = one_ages s id sound e
