use Rattle.std.proofs.Common.{◌≡◌}
use Rattle.std.specs.Vec.{vec_len}
use Rattle.rinda_notify.specs.Undoing.{undone}
use Rattle.rinda_notify.proofs.changes.undo_all.Given as goal

-- undoing those that are left makes what undoing all makes
abbrev pub invariant-loop-step : goal.invariant-loop-step
invariant-loop-step l = undone l.steps.items l.rows ≡ undone l.fn.steps.items l.fn.rows

abbrev pub decreases-loop-step : goal.decreases-loop-step
decreases-loop-step l = vec_len l.steps
