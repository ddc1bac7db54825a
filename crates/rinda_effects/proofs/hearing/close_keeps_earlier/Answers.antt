use Rattle.rinda_effects.proofs.Queueing.{close_keeps_earlier}
use Rattle.rinda_effects.proofs.hearing.close_keeps_earlier.Goals as goal

pub returns : goal.returns
returns c n last events more k runs h le = close_keeps_earlier n last events more k runs h le
