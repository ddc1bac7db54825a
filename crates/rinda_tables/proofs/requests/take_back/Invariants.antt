use Rattle.std.proofs.Common.{◌≡◌}
use Rattle.rinda_tables.specs.Asking.{undone}
use Rattle.rinda_tables.proofs.requests.take_back.Given as goal

-- taking back those that are left makes what taking back all makes
abbrev pub invariant-loop-step : goal.invariant-loop-step
invariant-loop-step l = undone l.steps.items l.waits ≡ undone l.fn.steps.items l.fn.waits

abbrev pub decreases-loop-step : goal.decreases-loop-step
decreases-loop-step l = goal.left-loop-step l
