use Rattle.rinda_effects.proofs.Queueing.{pop_drops_one}
use Rattle.rinda_effects.proofs.hearing.pop_drops_one.Goals as goal

pub returns : goal.returns
returns c n events rest e is = pop_drops_one n events rest e is
