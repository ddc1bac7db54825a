-- What holds of a space after each turn. docs/SPACE.md, Settled.
use Rattle.std.specs.Prelude.{◌≡◌, ℕ, Bool, true, false, not, ◌==◌, ◌&&◌, ◌||◌, List, Option, Some, None}
use Rattle.std.specs.List.{list_all}
use Rattle.rinda_rules.specs.declared.row.RequestState.{RequestState}
use Rattle.rinda_rules.specs.declared.row.RequestState.TheVariants.{Reserved, Parked, Granted, Answered}
use Rattle.rinda_rules.specs.declared.plain.Entry.{Entry}
use Rattle.rinda_rules.specs.declared.plain.Request.{Request}
use Rattle.rinda_rules.specs.Rows.{row_of}
use Rattle.rinda_rules.specs.Space.{Plain, is_reserved, is_parked, is_running}
use Rattle.rinda_rules.specs.Phases.{nothing_due, nobody_waits}

-- that tuple is granted
abbrev pub grants : ℕ → RequestState → Bool
grants tuple Reserved = false
grants tuple Parked = false
grants tuple (Granted t) = t == tuple
grants tuple (Answered out) = false

abbrev pub is_granted : ℕ → Option Request → Bool
is_granted tuple None = false
is_granted tuple (Some r) = grants tuple r.state

-- a free tuple is not marked, and one that is held is granted to the request that holds it
abbrev pub is_kept : List Request → Entry → Option ℕ → Bool
is_kept requests t None = not t.marked
is_kept requests t (Some holder) = is_granted t.id (row_of (λ r. r.id) holder requests)

abbrev pub each_kept : Plain → Bool
each_kept s = list_all (λ t. is_kept s.requests t t.holder) s.tuples

-- in a space that is shut, every reserved request is marked and no request is parked
abbrev pub is_shut_request : Request → Bool
is_shut_request r = (not (is_reserved r.state) || r.marked) && not (is_parked r.state)

-- where the space is shut, its requests are so, and no notifier runs
abbrev pub is_shut_down : Plain → Bool
is_shut_down s =
    not s.shut || (list_all is_shut_request s.requests
    && list_all (λ n. not (is_running n.state)) s.notifiers)

-- Nobody waits beside a match, nothing is due, every marked tuple is held, each held one is granted to its holder, and
-- a space that is shut has nobody who waits.
pub record Settled (s : Plain) : Type 0 where
  pub nobody : nobody_waits s ≡ true
  pub not_due : nothing_due s ≡ true
  pub kept : each_kept s ≡ true
  pub closed : is_shut_down s ≡ true
