use Rattle.std.proofs.Common.{◌≡◌, take}
use Rattle.rinda_tables.specs.Asking.{left_ids}
use Rattle.rinda_tables.proofs.requests.left_ids.Given as goal

-- the ids of the steps so far
abbrev pub invariant-loop-step : goal.invariant-loop-step
invariant-loop-step l = l.ids.items ≡ left_ids (take l.step-index l.steps.items)
