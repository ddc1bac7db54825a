use Rattle.std.proofs.Common.{◌≡◌, ◌+◌, ◌≤◌, true, drop, vec_len}
use Rattle.std.specs.Vec.{vec_capacity}
use Rattle.rinda_rules.specs.Rows.{rising}
use Rattle.rinda_rules.specs.Cases.{shut_request}
use Rattle.rinda_tables.specs.Asking.{undone, any_added, changed_each}
use Rattle.rinda_tables.proofs.requests.shut_each.Given as goal

-- with those that are left it is what all make, and the steps so far lead back; each took one place
abbrev pub invariant-loop-id : goal.invariant-loop-id
invariant-loop-id l =
    (changed_each (drop l.id-index l.ids) shut_request l.waits ≡ changed_each l.ids shut_request l.fn.waits)
    × (undone l.steps.items l.waits ≡ undone l.fn.steps.items l.fn.waits)
    × (any_added l.steps.items ≡ any_added l.fn.steps.items)
    × (rising (λ r. r.id) l.waits ≡ true)
    × (vec_len l.steps ≤ vec_len l.fn.steps + l.id-index)
    × (vec_capacity l.steps ≡ vec_capacity l.fn.steps)
