use Rattle.rinda_effects.proofs.Queueing.{lease_keeps_queue}
use Rattle.rinda_effects.proofs.hearing.lease_keeps_queue.Goals as goal

pub returns : goal.returns
returns c n m events h = lease_keeps_queue n m events h
