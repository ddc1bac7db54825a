use Rattle.std.proofs.Common.{◌≡◌, take}
use Rattle.rinda_audit.specs.Stored.{tuple_leases}
use Rattle.rinda_audit.proofs.starting.tuple_leases.Given as goal

-- the leases so far
abbrev pub invariant-loop-t : goal.invariant-loop-t
invariant-loop-t l = l.leases ≡ tuple_leases (take l.t-index l.tuples)
