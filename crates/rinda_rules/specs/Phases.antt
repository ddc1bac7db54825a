-- The phases of a turn around the event's own case: advance, age and serve; and raising. docs/SPACE.md, Phases.
use Rattle.std.specs.Prelude.{◌≡◌, ℕ, zero, suc, Bool, false, not, ◌&&◌, ◌||◌, ◌==◌, max, List, [], ◌∷◌, ◌++◌, length, Option, Some, None, is_none, if◌then◌else◌, IsTrue}
use Rattle.std.specs.List.{list_any, list_all}
use Rattle.rinda_rules.specs.declared.object.ObjectKind.{ObjectKind}
use Rattle.rinda_rules.specs.declared.object.ObjectKind.TheVariants as object
use Rattle.rinda_rules.specs.declared.object.Last.{Last}
use Rattle.rinda_rules.specs.declared.object.Last.TheVariants as last
use Rattle.rinda_rules.specs.declared.object.Doubt.TheVariants as doubt
use Rattle.rinda_rules.specs.declared.event.Kind.{Kind}
use Rattle.rinda_rules.specs.declared.event.Kind.TheVariants as kind
use Rattle.rinda_rules.specs.declared.out.Out.TheVariants as out
use Rattle.rinda_rules.specs.declared.turn.Pick.{Pick}
use Rattle.rinda_rules.specs.declared.row.RequestState.{RequestState}
use Rattle.rinda_rules.specs.declared.row.RequestState.TheVariants as state
use Rattle.rinda_rules.specs.declared.plain.Entry.{Entry}
use Rattle.rinda_rules.specs.declared.plain.Request.{Request}
use Rattle.rinda_rules.specs.declared.plain.Notifier.{Notifier}
use Rattle.rinda_rules.specs.declared.plain.Hearing.TheVariants as hearing
use Rattle.rinda_rules.specs.declared.plain.Happening.{Happening}
use Rattle.rinda_rules.specs.declared.plain.Happening.TheVariants as happening
use Rattle.rinda_rules.specs.Rows.{changed, without}
use Rattle.rinda_tuple.specs.Tuples.{value_of}
use Rattle.rinda_rules.specs.Space.{Plain, Found, TheTuple, TheRequest, TheNotifier, HasEnded, IsRecycled, IsUnknown, found, tuple_at, request_at, retained, is_due_tuple, is_due_request, is_due_notifier, is_read, is_waiting, may_have, can_be_served}

-- Advance: now becomes the larger of now and the reading.

abbrev pub advanced : Plain → ℕ → Plain
advanced s at = record s { clock = max s.clock at }

-- Raise: the event joins the list, of which each notifier's queue is a part.

abbrev pub raised : Happening → Entry → Plain → Plain
raised what t s = record
    s { events = s.events ++ record { what = what; id = t.id; tuple = t.value } ∷ [] }

-- One tuple, request or notifier is changed, and the rest of the space stays as it was.

abbrev pub with_tuple : ℕ → (Entry → Entry) → Plain → Plain
with_tuple id change s = record s { tuples = changed (λ t. t.id) id change s.tuples }

abbrev pub with_request : ℕ → (Request → Request) → Plain → Plain
with_request id change s = record s { requests = changed (λ r. r.id) id change s.requests }

abbrev pub with_notifier : ℕ → (Notifier → Notifier) → Plain → Plain
with_notifier id change s = record s { notifiers = changed (λ n. n.id) id change s.notifiers }

abbrev pub in_state : RequestState → Request → Request
in_state state r = record r { state = state }

abbrev pub request_in : ℕ → RequestState → Plain → Plain
request_in id state s = record s { requests = changed (λ r. r.id) id (in_state state) s.requests }

-- An object ends: its id is kept among the last that ended.

abbrev pub ended : ObjectKind → ℕ → Last → Plain → Plain
ended kind id last s =
    record s { ended = retained (s.ended ++ record { id = id; kind = kind; last = last } ∷ []) }

-- a tuple that is taken, expires or is canceled is raised so
abbrev pub happening_of : Last → Happening
happening_of last.Taken = happening.Take
happening_of last.Expired = happening.Delete
happening_of last.Canceled = happening.Delete
happening_of last.Done = happening.Delete

-- a tuple ends, and is raised as taken or deleted
abbrev pub tuple_ended : Last → Entry → Plain → Plain
tuple_ended last t s =
    ended object.Entry t.id last
    (raised (happening_of last) t (record s { tuples = without (λ t. t.id) t.id s.tuples }))

abbrev pub request_ended : Last → ℕ → Plain → Plain
request_ended last id s =
    ended object.Request id last (record s { requests = without (λ r. r.id) id s.requests })

abbrev pub notifier_ended : Last → ℕ → Plain → Plain
notifier_ended last id s =
    ended object.Notifier id last (record s { notifiers = without (λ n. n.id) id s.notifiers })

-- Age: each due row, in rising id. With a renewer it is doubted. Without, a tuple ends and is raised as deleted, a
-- request is answered Expired, and a notifier is closed, after the events that were raised by then.

abbrev pub doubt_tuple : Entry → Entry
doubt_tuple t = record t { doubt = doubt.Waiting }

abbrev pub doubt_request : Request → Request
doubt_request r = record r { doubt = doubt.Waiting }

abbrev pub doubt_notifier : Notifier → Notifier
doubt_notifier n = record n { doubt = doubt.Waiting }

abbrev pub close_after : Last → ℕ → Notifier → Notifier
close_after last until n = record n { state = hearing.Closed last until }

-- a tuple that is due
abbrev pub age_tuple : Plain → Entry → Plain
age_tuple s t = if is_none t.renewer then tuple_ended last.Expired t s
    else with_tuple t.id doubt_tuple s

-- a request that is due
abbrev pub age_request : Plain → Request → Plain
age_request s r =
    if is_none r.renewer then request_in r.id (state.Answered out.Expired) s
    else with_request r.id doubt_request s

-- a notifier that is due
abbrev pub age_notifier : Plain → Notifier → Plain
age_notifier s n =
    if is_none n.renewer then with_notifier n.id (close_after last.Expired (length s.events)) s
    else with_notifier n.id doubt_notifier s

-- what the id names ages, where it is due
abbrev pub age_found : Plain → Found → Plain
age_found s (TheTuple t) = if is_due_tuple s.clock t then age_tuple s t else s
age_found s (TheRequest r) = if is_due_request s.clock r then age_request s r else s
age_found s (TheNotifier n) = if is_due_notifier s.clock n then age_notifier s n else s
age_found s (HasEnded kind last) = s
age_found s IsRecycled = s
age_found s IsUnknown = s

-- each row of an id below that number, in rising id
abbrev pub aged_below : ℕ → Plain → Plain
aged_below zero s = s
aged_below (suc id) s = let before = aged_below id s in age_found before (found before id)

-- each row that is due
unfoldable pub aged : Plain → Plain
aged s = aged_below s.next s

-- no row is due
abbrev pub nothing_due : Plain → Bool
nothing_due s =
    list_all (λ t. not (is_due_tuple s.clock t)) s.tuples
    && (list_all (λ r. not (is_due_request s.clock r)) s.requests
    && list_all (λ n. not (is_due_notifier s.clock n)) s.notifiers)

-- Serve: first each waiting Read that has a match, then Takes and Moves, until nobody waits beside a match.

abbrev pub held_by : ℕ → Entry → Entry
held_by request t = record t { holder = Some request }

-- A request is served with a tuple: it reads it, takes it, or holds it.
abbrev pub served_as : Kind → Request → Entry → Plain → Plain
served_as kind.Read r t s = request_in r.id (state.Answered (out.Answer (value_of t.value))) s
served_as kind.Take r t s =
    request_in r.id (state.Answered (out.Answer (value_of t.value))) (tuple_ended last.Taken t s)
served_as kind.Move r t s =
    request_in r.id (state.Granted t.id)
    (record s { tuples = changed (λ t. t.id) t.id (held_by r.id) s.tuples })

abbrev pub served_with : Request → Entry → Plain → Plain
served_with r t s = served_as r.kind r t s

-- the request may have the tuple that was picked for it
abbrev pub may_have_row : Plain → Request → Option Entry → Bool
may_have_row s r None = false
may_have_row s r (Some t) = may_have s.clock r t

-- the pick is a match of that request
abbrev pub is_match : Plain → Request → Pick → Bool
is_match s r pick = pick.request == r.id && may_have_row s r (tuple_at s pick.tuple)

-- a Read waits beside a match
abbrev pub read_waits : Plain → Bool
read_waits s = list_any (λ r. is_read r.kind && can_be_served s r) s.requests

-- The pick is served now: its request waits, and may have its tuple; a Take or a Move comes after all Reads.
abbrev pub may_serve_row : Plain → Pick → Option Request → Bool
may_serve_row s pick None = false
may_serve_row s pick (Some r) =
    is_waiting r && (is_match s r pick && (is_read r.kind || not (read_waits s)))

abbrev pub may_serve : Plain → Pick → Bool
may_serve s pick = may_serve_row s pick (request_at s pick.request)

-- the space once the pick is served
abbrev pub served_rows : Plain → Option Request → Option Entry → Plain
served_rows s (Some r) (Some t) = served_with r t s
served_rows s (Some r) None = s
served_rows s None t = s

abbrev pub served : Plain → Pick → Plain
served s pick = served_rows s (request_at s pick.request) (tuple_at s pick.tuple)

-- nobody waits beside a match
abbrev pub nobody_waits : Plain → Bool
nobody_waits s = list_all (λ r. not (can_be_served s r)) s.requests

-- The picks serve one request after another, until nobody waits beside a match.
abbrev pub Serve : Plain → List Pick → Plain → Type 0
Serve s [] s' = IsTrue (nobody_waits s) × (s' ≡ s)
Serve s (pick ∷ picks) s' = IsTrue (may_serve s pick) × Serve (served s pick) picks s'
