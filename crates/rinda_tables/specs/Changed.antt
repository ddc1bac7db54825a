-- Which requests and notifiers a turn has changed for those who wait for them. docs/SPACE.md, Changed.
use Rattle.std.specs.Prelude.{◌≡◌, ℕ, Bool, true, false, not, ◌&&◌, ◌||◌, nat_lt, List, length, Option, Some, None}
use Rattle.rinda_rules.specs.declared.plain.Notifier.{Notifier}
use Rattle.rinda_rules.specs.declared.plain.Raised.{Raised}
use Rattle.rinda_rules.specs.declared.plain.Request.{Request}
use Rattle.rinda_rules.specs.Queue.{queue_values}
use Rattle.rinda_rules.specs.Rows.{row_of}
use Rattle.rinda_rules.specs.Space.{Plain, request_at, notifier_at, is_running}
use Rattle.rinda_tables.specs.Asking.{Requested, parked_in}
use Rattle.rinda_tables.specs.Holds.{Holds}
use Rattle.rinda_tables.specs.Tabled.{ahead_of, list_of}
use Rattle.rinda_tables.specs.Undoing.{is_in}
use Rattle.rinda_tables.specs.declared.tables.Tables.{Tables}

-- the request was parked, and is no longer, or is no longer there
abbrev pub left_parked : Option Request → Option Request → Bool
left_parked before after = parked_in before && not (parked_in after)

-- how many events the notifier has still to give, of those
abbrev pub events_left : List Raised → Notifier → ℕ
events_left events n = length (queue_values n events)

-- the notifier is gone or closed, or has more events to give than it had
abbrev pub has_grown : ℕ → List Raised → Option Notifier → Bool
has_grown before events None = true
has_grown before events (Some n) =
    not (is_running n.state) || nat_lt before (events_left events n)

-- it ran, and since then it has heard an event, was closed, or is gone
abbrev pub heard_or_closed : List Raised → List Raised → Option Notifier → Option Notifier → Bool
heard_or_closed events later None after = false
heard_or_closed events later (Some n) after =
    is_running n.state && has_grown (events_left events n) later after

-- from the one space to the other, the request or notifier with that id has changed so
abbrev pub is_changed : Plain → Plain → ℕ → Bool
is_changed before after id =
    left_parked (request_at before id) (request_at after id)
    || heard_or_closed before.events after.events (notifier_at before id) (notifier_at after id)

-- each that has changed from what stands to what is ahead is one of those
abbrev pub NamesChanged : Tables → List ℕ → Type 0
NamesChanged t ids = (before after : Plain) → Holds before (list_of t) → Holds after (ahead_of t) →
    (id : ℕ) → is_changed before after id ≡ true → is_in ids id ≡ true

-- the same of requests alone
abbrev pub NamesLeft : Requested → List ℕ → Type 0
NamesLeft t ids = (id : ℕ) →
    left_parked (row_of (λ r. r.id) id t.list) (row_of (λ r. r.id) id t.ahead) ≡ true →
    is_in ids id ≡ true
