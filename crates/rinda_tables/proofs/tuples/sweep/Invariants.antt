use Rattle.std.proofs.Common.{◌≡◌}
use Rattle.rinda_tables.specs.Undoing.{left}
use Rattle.rinda_tables.proofs.tuples.sweep.Given as goal

-- without those that are still to go it is without all
abbrev pub invariant-loop-id : goal.invariant-loop-id
invariant-loop-id l = left (λ t. t.id) l.gone.items l.bag ≡ left (λ t. t.id) l.fn.gone.items l.fn.bag

abbrev pub decreases-loop-id : goal.decreases-loop-id
decreases-loop-id l = goal.left-loop-id l
