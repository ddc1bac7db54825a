use Rattle.std.proofs.Common.{◌≡◌, ℕ, true}
use Rattle.rinda_lease.specs.Stages.{stage_at}
use Rattle.rinda_tables.specs.Deadlines.{undone, are_there, are_lively}
use Rattle.rinda_tables.proofs.deadlines.take_back.Given as goal

-- taking back those that are left makes what taking back all makes
abbrev pub invariant-loop-step : goal.invariant-loop-step
invariant-loop-step l =
    ((q : ℕ) → undone l.steps.items (stage_at l.leases) q ≡ undone l.fn.steps.items (stage_at l.fn.leases) q)
    × (are_there l.steps.items l.leases ≡ true)
    × (are_lively l.steps.items ≡ true)

abbrev pub decreases-loop-step : goal.decreases-loop-step
decreases-loop-step l = goal.left-loop-step l
