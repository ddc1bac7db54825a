-- Which row ages next. docs/SPACE.md, Age.
use Rattle.std.specs.Prelude.{◌≡◌, ℕ, ◌≤◌, ◌<◌, Bool, true, not, ◌||◌, nat_le, nat_lt, List, Option, Some, None}
use Rattle.std.specs.List.{list_all}
use Rattle.rinda_rules.specs.Space.{Plain, is_due_tuple, is_due_request, is_due_notifier}

-- no row of an id from one on and below another is due
abbrev pub none_due : {R : Type 0} → (R → ℕ) → (R → Bool) → ℕ → ℕ → List R → Bool
none_due key due from to rows =
    list_all (λ row. not (due row) || (nat_lt (key row) from || nat_le to (key row))) rows

-- the same of all rows of the space
pub record NoneDue (s : Plain) (from to : ℕ) : Type 0 where
  pub tuples : none_due (λ t. t.id) (is_due_tuple s.clock) from to s.tuples ≡ true
  pub requests : none_due (λ r. r.id) (is_due_request s.clock) from to s.requests ≡ true
  pub notifiers : none_due (λ n. n.id) (is_due_notifier s.clock) from to s.notifiers ≡ true

-- no row from that id on and before the next one that ages is due, or before the space's next id where none ages
abbrev pub NextDue : Plain → ℕ → Option ℕ → Type 0
NextDue s from None = NoneDue s from s.next
NextDue s from (Some id) = (from ≤ id) × (id < s.next) × NoneDue s from id
