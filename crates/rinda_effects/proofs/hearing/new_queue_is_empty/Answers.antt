use Rattle.rinda_effects.proofs.Queueing.{none_since}
use Rattle.rinda_effects.proofs.hearing.new_queue_is_empty.Goals as goal

pub returns : goal.returns
returns c s event pattern lease = none_since _ s.events
