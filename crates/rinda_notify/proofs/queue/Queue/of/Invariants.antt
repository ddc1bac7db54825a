use Rattle.std.proofs.Common.{◌≡◌, take}
use Rattle.rinda_notify.proofs.queue.Queue.of.Given as goal

-- the first ones are there so far
abbrev pub invariant-loop-event : goal.invariant-loop-event
invariant-loop-event l = l.queue ≡ take l.event-index l.events
