use Rattle.std.proofs.Common.{◌≡◌, take}
use Rattle.rinda_audit.proofs.copies.copy_events.Given as goal

-- what was copied so far
abbrev pub invariant-loop-event : goal.invariant-loop-event
invariant-loop-event l = l.copied.items ≡ take l.event-index l.events
