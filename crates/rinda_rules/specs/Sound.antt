-- What holds of a space between the phases of a turn too, whatever is due and whoever waits. docs/SPACE.md, Sound.
use Rattle.std.specs.Prelude.{◌≡◌, ℕ, ◌+◌, ◌≤◌, Bool, true, false, not, ◌&&◌, ◌==◌, nat_lt, nat_le, List, filter, length, Option, Some, None, is_none}
use Rattle.std.specs.List.{list_all}
use Rattle.rinda_rules.specs.declared.object.Doubt.{Doubt}
use Rattle.rinda_rules.specs.declared.out.Out.{Out}
use Rattle.rinda_rules.specs.declared.out.Out.TheVariants as out
use Rattle.rinda_rules.specs.declared.row.RequestState.{RequestState}
use Rattle.rinda_rules.specs.declared.row.RequestState.TheVariants.{Reserved, Parked, Granted, Answered}
use Rattle.rinda_rules.specs.declared.plain.Entry.{Entry}
use Rattle.rinda_rules.specs.declared.plain.Notifier.{Notifier}
use Rattle.rinda_rules.specs.declared.plain.Hearing.{Hearing}
use Rattle.rinda_rules.specs.declared.plain.Hearing.TheVariants.{Running, Closed}
use Rattle.rinda_rules.specs.declared.plain.Raised.{Raised}
use Rattle.rinda_rules.specs.Rows.{numbered}
use Rattle.rinda_rules.specs.Space.{Plain, tuple_at, is_doubted}
use Rattle.rinda_rules.specs.Queue.{heard}
use Rattle.rinda_rules.specs.Settled.{each_kept, is_shut_down}

-- Ids.

-- the rows of each kind rise by id, and were minted
pub record Numbered (s : Plain) : Type 0 where
  pub next : nat_lt 0 s.next ≡ true
  pub tuples : numbered (λ t. t.id) s.next s.tuples ≡ true
  pub requests : numbered (λ r. r.id) s.next s.requests ≡ true
  pub notifiers : numbered (λ n. n.id) s.next s.notifiers ≡ true

-- how many rows have that id
abbrev pub named : {R : Type 0} → (R → ℕ) → ℕ → List R → ℕ
named key id rows = length (filter (λ row. key row == id) rows)

-- how many objects have that id, those among the last that ended counted in
abbrev pub objects : Plain → ℕ → ℕ
objects s id =
    named (λ t. t.id) id s.tuples + named (λ r. r.id) id s.requests
    + (named (λ n. n.id) id s.notifiers + named (λ e. e.id) id s.ended)

-- no id names two objects, of whatever kinds; 0, and an id that was not minted, name none
pub record Apart (s : Plain) : Type 0 where
  pub once : (id : ℕ) → objects s id ≤ 1
  pub minted : (id : ℕ) → nat_le s.next id ≡ true → objects s id ≡ 0
  pub zero : objects s 0 ≡ 0

-- Tuples and their holders.

abbrev pub is_holder : ℕ → Option ℕ → Bool
is_holder request None = false
is_holder request (Some holder) = holder == request

-- the tuple is there, and held by that request
abbrev pub is_held_by : ℕ → Option Entry → Bool
is_held_by request None = false
is_held_by request (Some t) = is_holder request t.holder

-- a request that is granted a tuple holds it
abbrev pub is_holding : Plain → ℕ → RequestState → Bool
is_holding s request Reserved = true
is_holding s request Parked = true
is_holding s request (Granted tuple) = is_held_by request (tuple_at s tuple)
is_holding s request (Answered out) = true

abbrev pub each_holds : Plain → Bool
each_holds s = list_all (λ r. is_holding s r.id r.state) s.requests

-- Answers that wait to be collected: a tuple, Expired or Canceled.

abbrev pub is_kept_answer : Out → Bool
is_kept_answer (out.Answer value) = true
is_kept_answer out.Expired = true
is_kept_answer out.Canceled = true
is_kept_answer _ = false

abbrev pub has_answer : RequestState → Bool
has_answer Reserved = true
has_answer Parked = true
has_answer (Granted tuple) = true
has_answer (Answered out) = is_kept_answer out

-- Doubts: who is doubted has a renewer.

abbrev pub may_doubt : Doubt → Bool → Bool
may_doubt doubt alone = not (is_doubted doubt && alone)

pub record Doubts (s : Plain) : Type 0 where
  pub tuples : list_all (λ t. may_doubt t.doubt (is_none t.renewer)) s.tuples ≡ true
  pub requests : list_all (λ r. may_doubt r.doubt (is_none r.renewer)) s.requests ≡ true
  pub notifiers : list_all (λ n. may_doubt n.doubt (is_none n.renewer)) s.notifiers ≡ true

-- Notifiers: what was raised before one was registered was raised before it closed, which was raised by now; and no
-- more was popped than it heard.

abbrev pub ends_within : ℕ → ℕ → Hearing → Bool
ends_within since raised Running = nat_le since raised
ends_within since raised (Closed last until) = nat_le since until && nat_le until raised

abbrev pub hears_within : List Raised → Notifier → Bool
hears_within events n =
    ends_within n.since (length events) n.state && nat_le n.popped (length (heard n events))

-- What every phase of every turn keeps, from the opening on.
pub record Sound (s : Plain) : Type 0 where
  pub numbered : Numbered s
  pub apart : Apart s
  pub few : length s.ended ≤ 4096
  pub held : each_kept s ≡ true
  pub granted : each_holds s ≡ true
  pub answers : list_all (λ r. has_answer r.state) s.requests ≡ true
  pub doubts : Doubts s
  pub heard : list_all (hears_within s.events) s.notifiers ≡ true
  pub closed : is_shut_down s ≡ true
