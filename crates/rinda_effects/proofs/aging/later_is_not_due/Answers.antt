use Rattle.rinda_effects.proofs.Aged.{later_is_not_due}
use Rattle.rinda_effects.proofs.aging.later_is_not_due.Goals as goal

pub returns : goal.returns
returns c s at e = later_is_not_due s at e
