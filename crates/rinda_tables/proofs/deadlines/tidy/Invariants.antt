use Rattle.std.proofs.Common.{◌≡◌, ℕ}
use Rattle.rinda_lease.specs.Stages.{stage_at}
use Rattle.rinda_tables.specs.Deadlines.{quiet}
use Rattle.rinda_tables.proofs.deadlines.tidy.Given as goal

-- each stage is as quiet as it was
abbrev pub invariant-loop-id : goal.invariant-loop-id
invariant-loop-id l = (q : ℕ) → quiet (stage_at l.leases q) ≡ quiet (stage_at l.fn.leases q)

abbrev pub decreases-loop-id : goal.decreases-loop-id
decreases-loop-id l = goal.left-loop-id l
