use Rattle.std.proofs.Common.{◌≡◌, take}
use Rattle.rinda_audit.specs.Stored.{note_leases}
use Rattle.rinda_audit.proofs.starting.note_leases.Given as goal

-- the leases so far
abbrev pub invariant-loop-n : goal.invariant-loop-n
invariant-loop-n l = l.leases ≡ note_leases (take l.n-index l.notifiers)
