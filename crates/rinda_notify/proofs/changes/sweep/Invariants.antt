use Rattle.std.proofs.Common.{◌≡◌}
use Rattle.rinda_notify.specs.Undoing.{left}
use Rattle.rinda_notify.proofs.changes.sweep.Given as goal

-- without those that are still to go it is without all
abbrev pub invariant-loop-id : goal.invariant-loop-id
invariant-loop-id l = left l.gone.items l.rows ≡ left l.fn.gone.items l.fn.rows

abbrev pub decreases-loop-id : goal.decreases-loop-id
decreases-loop-id l = goal.left-loop-id l
