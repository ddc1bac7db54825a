-- What a notifier hears.
use Rattle.std.specs.Prelude.{◌≡◌, ℕ, ◌-◌, Bool, true, false, ◌&&◌, ◌==◌, List, [], ◌∷◌, ◌++◌, filter, drop, take, length, Some}
use Rattle.drb_tree.specs.declared.Tree.{Tree}
use Rattle.rinda_tuple.specs.declared.tuple.Template.{Template}
use Rattle.rinda_tuple.specs.declared.lease.Lease.{Lease}
use Rattle.rinda_rules.specs.declared.event.Event.{Event}
use Rattle.rinda_rules.specs.declared.event.Event.TheVariants.{Write, Reserve, Submit, Collect, Settle, Withdraw, Cancel, Renew, Look, Value, ReadAll, Notify, Pop, NextAsk, Asked, Tick, Shut}
use Rattle.rinda_rules.specs.declared.out.Out.{Out}
use Rattle.rinda_rules.specs.declared.out.Out.TheVariants as out
use Rattle.rinda_rules.specs.declared.turn.Turn.{Turn}
use Rattle.rinda_rules.specs.declared.plain.Notifier.{Notifier}
use Rattle.rinda_rules.specs.declared.plain.Hearing.{Hearing}
use Rattle.rinda_rules.specs.declared.plain.Hearing.TheVariants.{Running, Closed}
use Rattle.rinda_rules.specs.declared.plain.Raised.{Raised}
use Rattle.rinda_rules.specs.Space.{Plain, notifier_at, is_running, hears}
use Rattle.rinda_rules.specs.Queue.{queue}
use Rattle.rinda_rules.specs.Steps.{found_by}
use Rattle.rinda_rules.specs.Legal.{plain_from, LegalFrom}
use Rattle.rinda_laws.specs.Starting.{IsStart, raised_since}
use Rattle.rinda_laws.specs.Balance.{how_many}

abbrev pub is_event_out : Out → Bool
is_event_out (out.Event value) = true
is_event_out _ = false

-- the event asks for that notifier's next event: a Pop or a Withdraw of it
abbrev pub asks_next : ℕ → Event → Bool
asks_next id (Write value lease) = false
asks_next id (Reserve kind pattern lease) = false
asks_next id (Submit i) = false
asks_next id (Collect i) = false
asks_next id (Settle i ok) = false
asks_next id (Withdraw i) = i == id
asks_next id (Cancel i) = false
asks_next id (Renew i lease) = false
asks_next id (Look i) = false
asks_next id (Value i) = false
asks_next id (ReadAll pattern) = false
asks_next id (Notify event pattern lease) = false
asks_next id (Pop i) = i == id
asks_next id NextAsk = false
asks_next id (Asked i life) = false
asks_next id Tick = false
asks_next id Shut = false

-- the turn popped an event of that notifier: it asked for the next one, and the answer was an event
abbrev pub pops : ℕ → Turn → Bool
pops id turn = asks_next id turn.event && is_event_out turn.out

-- Of the events since its registration, those that a notifier may hear: all where it runs, and where it is closed those
-- before it closed.
abbrev pub until_close : Hearing → ℕ → List Raised → List Raised
until_close Running first events = events
until_close (Closed last until) first events = take (until - first) events

-- A notifier with that event value and that template, registered in the first space, of which so many events were
-- popped: its queue in the later space.
pub record HeardSince (event : Tree) (pattern : Template) (first : Plain) (popped : ℕ)
    (later : Plain) (n : Notifier) : Type 0 where
  pub event_is : n.event ≡ event
  pub pattern_is : n.pattern ≡ pattern
  pub queue_is :
      queue n later.events
      ≡ drop popped (filter (hears n)
      (until_close n.state (length first.events) (raised_since first later)))

-- From a Notify on, as long as the notifier has a row, running or closed, its queue is exactly the events since then, up
-- to its close, that it hears, without as many of the first ones as turns since then popped one.
abbrev pub QueueIsExact : Type 0
QueueIsExact = (start : Plain) (before later : List Turn) (turn : Turn) (event : Tree)
    (pattern : Template) (lease : Lease) (id : ℕ) (n : Notifier) →
    IsStart start → LegalFrom start (before ++ turn ∷ later) →
    turn.event ≡ Notify event pattern lease → turn.out ≡ out.Notifier id →
    notifier_at (plain_from start (before ++ turn ∷ later)) id ≡ Some n →
    HeardSince event pattern (found_by (plain_from start before) turn.at) (how_many (pops id) later)
    (plain_from start (before ++ turn ∷ later)) n

-- Of a notifier of the start: what its queue had there, and then the events since then, up to its close, that it hears;
-- none of these where it was closed at the start; without as many of the first ones as turns popped.
abbrev pub OldQueueIsExact : Type 0
OldQueueIsExact = (start : Plain) (h : List Turn) (id : ℕ) (first n : Notifier) →
    IsStart start → LegalFrom start h →
    notifier_at start id ≡ Some first → notifier_at (plain_from start h) id ≡ Some n →
    (n.event ≡ first.event) × (n.pattern ≡ first.pattern)
    × (queue n (plain_from start h).events
    ≡ drop (how_many (pops id) h)
    (queue first start.events
    ++ filter (hears n) (until_close n.state (length start.events)
    (raised_since start (plain_from start h)))))

-- An asker for the next of a closed notifier whose queue is empty is answered Closed, and never Event or NotYet.
abbrev pub CloseIsLast : Type 0
CloseIsLast = (start : Plain) (h : List Turn) (turn : Turn) (id : ℕ) (n : Notifier) →
    IsStart start → LegalFrom start (h ++ turn ∷ []) →
    notifier_at (found_by (plain_from start h) turn.at) id ≡ Some n →
    is_running n.state ≡ false → queue n (found_by (plain_from start h) turn.at).events ≡ [] →
    asks_next id turn.event ≡ true → turn.out ≡ out.Closed
