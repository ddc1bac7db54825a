use Rattle.std.proofs.Common.{◌≡◌, take}
use Rattle.rinda_notify.specs.Undoing.{changed_ids}
use Rattle.rinda_notify.proofs.step.changed_ids.Given as goal

-- the ids of the steps so far
abbrev pub invariant-loop-step : goal.invariant-loop-step
invariant-loop-step l = l.ids.items ≡ changed_ids (take l.step-index l.steps.items)
