use Rattle.std.proofs.Common.{◌≡◌, map, take}
use Rattle.rinda_rules.specs.Reopened.{tuple_again}
use Rattle.rinda_audit.proofs.reopening.tuples_again.Given as goal

-- the tuples so far
abbrev pub invariant-loop-row : goal.invariant-loop-row
invariant-loop-row l = l.all.items ≡ map tuple_again (take l.row-index l.rows)
