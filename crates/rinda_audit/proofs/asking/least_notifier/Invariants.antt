use Rattle.std.proofs.Common.{◌≡◌, ◌≤◌, drop, length}
use Rattle.rinda_rules.specs.Cases.{asking_of, flat}
use Rattle.rinda_audit.specs.Asks.{best_seen, least_onto}
use Rattle.rinda_audit.proofs.asking.least_notifier.Given as goal

-- the least of the rows from there on
abbrev pub invariant-loop-left : goal.invariant-loop-left
invariant-loop-left l = record {
  least : best_seen l.best ≡ least_onto (flat (λ row. asking_of row.id row.doubt row.renewer) (drop l.left l.rows)) (best_seen l.fn.best);
  within : l.left ≤ length l.rows;
}

abbrev pub decreases-loop-left : goal.decreases-loop-left
decreases-loop-left l = l.left
