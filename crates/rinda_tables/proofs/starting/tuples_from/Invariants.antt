use Rattle.std.proofs.Common.{◌≡◌, map, take}
use Rattle.rinda_tables.specs.Undoing.{settled}
use Rattle.rinda_tables.specs.Starting.{tuple_by}
use Rattle.rinda_tables.proofs.starting.tuples_from.Given as goal

-- the tuples so far
abbrev pub invariant-loop-row : goal.invariant-loop-row
invariant-loop-row l = l.tuples ≡ settled (map (tuple_by l.leases) (take l.row-index l.rows))
