use Rattle.rinda_effects.proofs.Single.{quiet_is_unserved}
use Rattle.rinda_effects.proofs.aging.quiet_is_unserved.Goals as goal

pub returns : goal.returns
returns c s caller at event choice e none = quiet_is_unserved s caller at event choice e none
