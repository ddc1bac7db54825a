use Rattle.rinda_rules.proofs.Settling.{settled-Step}
use Rattle.rinda_rules.proofs.laws.settled_is_kept.Goals as goal

pub returns : goal.returns
returns c s caller at event out picks s' sound settled step =
    let both = settled-Step s caller at event out picks s' sound step in (both.sound, both.settled)
