-- What aging does to one row of tables.
use Rattle.std.proofs.Common.{◌≡◌, ℕ, Bool, true, false, List, [], ◌∷◌, map, Option, Some, None, refl, ap, subst, arith}
use Rattle.std.specs.Prelude.{not, ◌&&◌, ◌||◌, ◌==◌, nat_le, is_none, is_some, if◌then◌else◌, length}
use Rattle.std.proofs.lemmas.Bool.Decides.{nat_tests}
use Rattle.rinda_notify.specs.Notes.{note_of, note_at, is_open}
use Rattle.rinda_rules.specs.declared.object.Last.TheVariants as last
use Rattle.rinda_rules.specs.declared.out.Out.TheVariants as out
use Rattle.rinda_rules.specs.declared.row.RequestState.TheVariants as state
use Rattle.rinda_rules.specs.declared.plain.Entry.{Entry}
use Rattle.rinda_rules.specs.declared.plain.Request.{Request}
use Rattle.rinda_rules.specs.declared.plain.Notifier.{Notifier}
use Rattle.rinda_rules.specs.declared.plain.Ended.{Ended}
use Rattle.rinda_rules.specs.declared.plain.Raised.{Raised}
use Rattle.rinda_rules.specs.declared.plain.Hearing.{Hearing}
use Rattle.rinda_rules.specs.declared.plain.Hearing.TheVariants as hearing
use Rattle.rinda_rules.specs.Rows.{row_of}
use Rattle.rinda_rules.specs.Starts.{closed_as}
use Rattle.rinda_rules.specs.Space.{Plain, IsUnknown, IsRecycled, request_at, tuple_at, notifier_at, ended_at, found, is_doubted, is_over, is_running, is_due_tuple, is_due_request, is_due_notifier}
use Rattle.rinda_rules.specs.Phases.{age_found, age_tuple, age_request, age_notifier, with_tuple, with_request, with_notifier, request_in, close_after, doubt_tuple, doubt_request, doubt_notifier}
use Rattle.rinda_tables.specs.Holds.{Held, Holds}
use Rattle.rinda_tables.specs.Dues.{is_due_noted}

abbrev pub in-row : {A : Type 0} → (A → Type 0) → Option A → Type 0
in-row P None = Unit {0}
in-row P (Some x) = P x

-- what is so of a row is so of the same one
pub moved : {A : Type 0} (P : A → Type 0) (x y : A) → Some x ≡ Some y → P x → P y
moved P x y e p = subst (in-row P) e p

pub doubted-tuple : (s : Plain) (b : Held) (id : ℕ) (e : Entry) → e.id ≡ id → is_due_tuple s.clock e ≡ true → is_none e.renewer ≡ false → Holds (with_tuple id doubt_tuple s) b → Holds (if is_due_tuple s.clock e then age_tuple s e else s) b
doubted-tuple s b id e is due asks h = rw (due, asks, is) h

pub expired-request : (s : Plain) (b : Held) (id : ℕ) (e : Request) → e.id ≡ id → is_due_request s.clock e ≡ true → is_none e.renewer ≡ true → Holds (request_in id (state.Answered out.Expired) s) b → Holds (if is_due_request s.clock e then age_request s e else s) b
expired-request s b id e is due asks h = rw (due, asks, is) h

pub doubted-request : (s : Plain) (b : Held) (id : ℕ) (e : Request) → e.id ≡ id → is_due_request s.clock e ≡ true → is_none e.renewer ≡ false → Holds (with_request id doubt_request s) b → Holds (if is_due_request s.clock e then age_request s e else s) b
doubted-request s b id e is due asks h = rw (due, asks, is) h

-- a notifier is due where its note is

open-runs : (st : Hearing) → is_open (closed_as st) ≡ is_running st
open-runs hearing.Running = refl
open-runs (hearing.Closed last until) = refl

pub noted-due : (events : List Raised) (now : ℕ) (n : Notifier) → is_due_noted now (note_of events n) ≡ is_due_notifier now n
noted-due events now n = ap (λ runs. runs && (not (is_doubted n.doubt) && is_over now n.deadline)) (open-runs n.state)

due-runs : (now : ℕ) (n : Notifier) (st : Hearing) → n.state ≡ st → is_due_notifier now n ≡ true → n.state ≡ hearing.Running
due-runs now n hearing.Running is due = is
due-runs now n (hearing.Closed l u) is due = absurd-due (rw is at due)
  where
    absurd-due : false ≡ true → n.state ≡ hearing.Running
    absurd-due e = cc

pub due-is-running : (now : ℕ) (n : Notifier) → is_due_notifier now n ≡ true → n.state ≡ hearing.Running
due-is-running now n due = due-runs now n n.state refl due

pub closed-notifier : (s : Plain) (b : Held) (id : ℕ) (e : Notifier) → e.id ≡ id → is_due_notifier s.clock e ≡ true → is_none e.renewer ≡ true → Holds (with_notifier id (close_after last.Expired (length s.events)) s) b → Holds (if is_due_notifier s.clock e then age_notifier s e else s) b
closed-notifier s b id e is due asks h = rw (due, asks, is) h

pub doubted-notifier : (s : Plain) (b : Held) (id : ℕ) (e : Notifier) → e.id ≡ id → is_due_notifier s.clock e ≡ true → is_none e.renewer ≡ false → Holds (with_notifier id doubt_notifier s) b → Holds (if is_due_notifier s.clock e then age_notifier s e else s) b
doubted-notifier s b id e is due asks h = rw (due, asks, is) h

pub spared-notifier : (s : Plain) (b : Held) (e : Notifier) → is_due_notifier s.clock e ≡ false → Holds s b → Holds (if is_due_notifier s.clock e then age_notifier s e else s) b
spared-notifier s b e due h = rw due h

-- What an id names.

pub has-note : (events : List Raised) (id : ℕ) (ns : List Notifier) → is_some (note_at id (map (note_of events) ns)) ≡ is_some (row_of (λ n. n.id) id ns)
has-note events id [] = refl
has-note events id (n ∷ ns) = grind (arith, nat_tests, has-note events id ns)

pub no-row : {A : Type 0} (o : Option A) → is_some o ≡ false → o ≡ None
no-row None e = refl
no-row (Some x) e = cc

pub aged-notifier : (s : Plain) (b : Held) (id : ℕ) (n : Option Notifier) → request_at s id ≡ None → tuple_at s id ≡ None → notifier_at s id ≡ n → is_some n ≡ true → ((e : Notifier) → notifier_at s id ≡ Some e → Holds (if is_due_notifier s.clock e then age_notifier s e else s) b) → Holds (age_found s (found s id)) b
aged-notifier s b id None r t is there k = cc
aged-notifier s b id (Some e) r t is there k = rw (r, t, is) (k e is)

either : (s : Plain) (b : Bool) → age_found s (if b then IsUnknown else IsRecycled) ≡ s
either s true = refl
either s false = refl

pub aged-nothing : (s : Plain) (id : ℕ) (o : Option Ended) → request_at s id ≡ None → tuple_at s id ≡ None → notifier_at s id ≡ None → ended_at s id ≡ o → age_found s (found s id) ≡ s
aged-nothing s id (Some e) r t n is = rw (r, t, n, is) refl
aged-nothing s id None r t n is = rw (r, t, n, is) (either s (id == 0 || nat_le s.next id))
