use Rattle.std.proofs.Common.{◌≡◌}
use Rattle.rinda_tables.specs.Undoing.{left}
use Rattle.rinda_tables.proofs.requests.sweep.Given as goal

-- without those that are still to go it is without all
abbrev pub invariant-loop-id : goal.invariant-loop-id
invariant-loop-id l = left (λ r. r.id) l.gone.items l.waits ≡ left (λ r. r.id) l.fn.gone.items l.fn.waits

abbrev pub decreases-loop-id : goal.decreases-loop-id
decreases-loop-id l = goal.left-loop-id l
