use Rattle.std.proofs.Common.{◌≡◌, ℕ, drop}
use Rattle.std.specs.Prelude.{take}
use Rattle.rinda_lease.specs.Stages.{is_in}
use Rattle.rinda_tables.specs.Deadlines.{ahead_at, list_at, rested, tuple_in}
use Rattle.rinda_tables.proofs.tables.rest_each.Given as goal

-- with those that are left all of them end
abbrev pub invariant-loop-id : goal.invariant-loop-id
invariant-loop-id l =
    ((q : ℕ) → rested (is_in q (drop l.id-index l.ids)) (tuple_in q l.tuples.ahead) (ahead_at l.deadlines q)
    ≡ rested (is_in q l.ids) (tuple_in q l.tuples.ahead) (ahead_at l.fn.deadlines q))
    × ((q : ℕ) → list_at l.deadlines q ≡ list_at l.fn.deadlines q)
