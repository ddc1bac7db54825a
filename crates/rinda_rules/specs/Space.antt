-- A plain space: all that a history of turns leaves, as lists. Its rows rise by id. docs/SPACE.md, Rows.
use Rattle.std.specs.Prelude.{ℕ, ◌-◌, Bool, true, false, not, ◌&&◌, ◌||◌, ◌==◌, nat_le, List, [], ◌∷◌, drop, length, Option, Some, None, is_none, codes, if◌then◌else◌}
use Rattle.std.specs.List.{list_any}
use Rattle.drb_tree.specs.declared.Tree.{Tree}
use Rattle.drb_tree.specs.declared.Tree.TheViews.{roll-Tree}
use Rattle.drb_tree.specs.declared.Tree.TheOpen.{Tree-F}
use Rattle.drb_tree.specs.declared.Remote.{Remote}
use Rattle.drb_tree.specs.declared.Code.TheVariants.{Utf8}
use Rattle.rinda_tuple.specs.Tuples.{value_of}
use Rattle.rinda_tuple.specs.Matching.{matches, suits}
use Rattle.rinda_rules.specs.declared.object.ObjectKind.{ObjectKind}
use Rattle.rinda_rules.specs.declared.object.Last.{Last}
use Rattle.rinda_rules.specs.declared.object.Doubt.{Doubt}
use Rattle.rinda_rules.specs.declared.object.Doubt.TheVariants.{No, Waiting, Asked}
use Rattle.rinda_rules.specs.declared.event.Kind.{Kind}
use Rattle.rinda_rules.specs.declared.event.Kind.TheVariants.{Read, Take, Move}
use Rattle.rinda_rules.specs.declared.row.RequestState.{RequestState}
use Rattle.rinda_rules.specs.declared.row.RequestState.TheVariants.{Reserved, Parked, Granted, Answered}
use Rattle.rinda_rules.specs.declared.plain.Entry.{Entry}
use Rattle.rinda_rules.specs.declared.plain.Request.{Request}
use Rattle.rinda_rules.specs.declared.plain.Notifier.{Notifier}
use Rattle.rinda_rules.specs.declared.plain.Hearing.{Hearing}
use Rattle.rinda_rules.specs.declared.plain.Hearing.TheVariants.{Running, Closed}
use Rattle.rinda_rules.specs.declared.plain.Happening.{Happening}
use Rattle.rinda_rules.specs.declared.plain.Happening.TheVariants as happening
use Rattle.rinda_rules.specs.declared.plain.Raised.{Raised}
use Rattle.rinda_rules.specs.declared.plain.Ended.{Ended}
use Rattle.rinda_rules.specs.Rows.{row_of}

-- The clock is the latest time that the space has seen. Events are all that were ever raised, the first one first.
-- Ended are the last 4,096 objects that ended, in the order in which they ended. A space that is shut takes no new
-- tuples, requests and notifiers.
pub record Plain : Type 0 where
  pub clock : ℕ
  pub next : ℕ
  pub shut : Bool
  pub tuples : List Entry
  pub requests : List Request
  pub notifiers : List Notifier
  pub events : List Raised
  pub ended : List Ended

-- the space before the first turn
abbrev pub opening : Plain
opening = record {
  clock = 0;
  next = 1;
  shut = false;
  tuples = [];
  requests = [];
  notifiers = [];
  events = [];
  ended = [];
}

abbrev pub tuple_at : Plain → ℕ → Option Entry
tuple_at s id = row_of (λ t. t.id) id s.tuples

abbrev pub request_at : Plain → ℕ → Option Request
request_at s id = row_of (λ r. r.id) id s.requests

abbrev pub notifier_at : Plain → ℕ → Option Notifier
notifier_at s id = row_of (λ n. n.id) id s.notifiers

abbrev pub ended_at : Plain → ℕ → Option Ended
ended_at s id = row_of (λ e. e.id) id s.ended

-- What an id names: an object of the space, one that ended, one that ended too long ago, or none.
pub data Found : Type 0 where
  TheTuple : Entry → Found
  TheRequest : Request → Found
  TheNotifier : Notifier → Found
  HasEnded : ObjectKind → Last → Found
  IsRecycled : Found
  IsUnknown : Found

abbrev pub found_among : Plain → ℕ → Option Request → Option Entry → Option Notifier →
    Option Ended → Found
found_among s id (Some r) t n e = TheRequest r
found_among s id None (Some t) n e = TheTuple t
found_among s id None None (Some n) e = TheNotifier n
found_among s id None None None (Some e) = HasEnded e.kind e.last
found_among s id None None None None = if id == 0 || nat_le s.next id then IsUnknown else IsRecycled

abbrev pub found : Plain → ℕ → Found
found s id = found_among s id (request_at s id) (tuple_at s id) (notifier_at s id) (ended_at s id)

-- the last 4,096 of them
abbrev pub retained : List Ended → List Ended
retained ended = drop (length ended - 4096) ended

-- Lives.

-- the deadline is at most now
abbrev pub is_over : ℕ → Option ℕ → Bool
is_over now None = false
is_over now (Some deadline) = nat_le deadline now

-- who is asked for more time: nobody where a lease is over as it is set
abbrev pub renewer_of : Option ℕ → Option Remote → ℕ → Option Remote
renewer_of deadline renewer now = if is_over now deadline then None else renewer

-- Tuples.

abbrev pub is_doubted : Doubt → Bool
is_doubted No = false
is_doubted Waiting = true
is_doubted Asked = true

-- held by nobody
abbrev pub is_free : Entry → Bool
is_free t = is_none t.holder

-- neither marked nor doubted, and held or its deadline above now
abbrev pub is_live : ℕ → Entry → Bool
is_live now t = not t.marked
    && (not (is_doubted t.doubt) && (not (is_free t) || not (is_over now t.deadline)))

abbrev pub is_due_tuple : ℕ → Entry → Bool
is_due_tuple now t = is_free t && (not (is_doubted t.doubt) && is_over now t.deadline)

-- Requests.

abbrev pub is_reserved : RequestState → Bool
is_reserved Reserved = true
is_reserved Parked = false
is_reserved (Granted tuple) = false
is_reserved (Answered out) = false

abbrev pub is_parked : RequestState → Bool
is_parked Reserved = false
is_parked Parked = true
is_parked (Granted tuple) = false
is_parked (Answered out) = false

abbrev pub is_read : Kind → Bool
is_read Read = true
is_read Take = false
is_read Move = false

-- parked, and not doubted
abbrev pub is_waiting : Request → Bool
is_waiting r = is_parked r.state && not (is_doubted r.doubt)

abbrev pub is_due_request : ℕ → Request → Bool
is_due_request now r = is_waiting r && is_over now r.deadline

-- a live match, which is free unless the request only reads it
abbrev pub may_have : ℕ → Request → Entry → Bool
may_have now r t = matches r.pattern t.value && (is_live now t && (is_read r.kind || is_free t))

abbrev pub has_match : Plain → Request → Bool
has_match s r = list_any (may_have s.clock r) s.tuples

-- it waits, and has a match
abbrev pub can_be_served : Plain → Request → Bool
can_be_served s r = is_waiting r && has_match s r

-- Notifiers.

abbrev pub is_running : Hearing → Bool
is_running Running = true
is_running (Closed last until) = false

abbrev pub is_due_notifier : ℕ → Notifier → Bool
is_due_notifier now n = is_running n.state && (not (is_doubted n.doubt) && is_over now n.deadline)

-- Events.

-- the name that a notifier hears
abbrev pub name_of : Happening → List ℕ
name_of happening.Write = codes "write"
name_of happening.Take = codes "take"
name_of happening.Delete = codes "delete"

-- the name as a text
abbrev pub text_of : Happening → Tree
text_of what = roll-Tree (Tree-F.Text (record { bytes = name_of what; code = Utf8 }))

-- an event as a notifier gives it: its name and the tuple
abbrev pub event_value : Raised → Tree
event_value e = roll-Tree (Tree-F.List (text_of e.what ∷ value_of e.tuple ∷ []))

-- the notifier's event pattern suits the event's name, and its pattern matches the tuple
unfoldable pub hears : Notifier → Raised → Bool
hears n e = suits n.event (text_of e.what) && matches n.pattern e.tuple
