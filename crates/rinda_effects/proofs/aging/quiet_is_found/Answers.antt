use Rattle.rinda_effects.proofs.Aged.{nothing_ages}
use Rattle.rinda_effects.proofs.aging.quiet_is_found.Goals as goal

pub returns : goal.returns
returns c s at e = nothing_ages _ e
