use Rattle.rinda_effects.proofs.Queueing.{close_keeps_queue}
use Rattle.rinda_effects.proofs.hearing.close_keeps_queue.Goals as goal

pub returns : goal.returns
returns c n last events later runs = close_keeps_queue n last events later runs
