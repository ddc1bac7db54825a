use Rattle.std.proofs.Common.{◌≡◌, map, take}
use Rattle.rinda_audit.specs.Stored.{tuple_row}
use Rattle.rinda_audit.proofs.starting.tuple_rows.Given as goal

-- the rows so far
abbrev pub invariant-loop-t : goal.invariant-loop-t
invariant-loop-t l = l.rows ≡ map tuple_row (take l.t-index l.tuples)
