use Rattle.rinda_effects.proofs.Queueing.{raised_is_queued}
use Rattle.rinda_effects.proofs.hearing.raised_is_queued.Goals as goal

pub returns : goal.returns
returns c n events more h = raised_is_queued n events more h
