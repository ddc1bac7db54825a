use Rattle.std.proofs.Common.{◌≡◌, map, take}
use Rattle.rinda_audit.specs.Stored.{start_note}
use Rattle.rinda_audit.proofs.starting.start_notes.Given as goal

-- the notifiers so far
abbrev pub invariant-loop-n : goal.invariant-loop-n
invariant-loop-n l = l.notes ≡ map (start_note l.events) (take l.n-index l.notifiers)
