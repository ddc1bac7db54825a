-- Notifiers with their queues: what each happening leaves of them. docs/SPACE.md, Queues.
use Rattle.std.specs.Prelude.{ℕ, ◌-◌, Bool, true, false, ◌&&◌, List, [], ◌∷◌, ◌++◌, length, take, Option, Some, None, if◌then◌else◌}
use Rattle.drb_tree.specs.declared.Tree.{Tree}
use Rattle.drb_tree.specs.declared.Tree.TheViews.{roll-Tree}
use Rattle.drb_tree.specs.declared.Tree.TheOpen.{Tree-F}
use Rattle.drb_tree.specs.declared.Remote.{Remote}
use Rattle.rinda_tuple.specs.declared.tuple.Tuple.{Tuple}
use Rattle.rinda_tuple.specs.Tuples.{value_of}
use Rattle.rinda_tuple.specs.Matching.{matches, suits}
use Rattle.rinda_rules.specs.declared.object.Last.{Last}
use Rattle.rinda_rules.specs.declared.object.Doubt.TheVariants as doubt
use Rattle.rinda_rules.specs.declared.row.NoteState.{NoteState}
use Rattle.rinda_rules.specs.declared.row.NoteState.TheVariants as state
use Rattle.rinda_rules.specs.declared.start.StartNote.{StartNote}
use Rattle.rinda_rules.specs.declared.start.StartLease.{StartLease}
use Rattle.rinda_rules.specs.declared.plain.Happening.{Happening}
use Rattle.rinda_rules.specs.declared.plain.Notifier.{Notifier}
use Rattle.rinda_rules.specs.declared.plain.Raised.{Raised}
use Rattle.rinda_rules.specs.Rows.{row_of, changed, without}
use Rattle.rinda_rules.specs.Space.{text_of, renewer_of}
use Rattle.rinda_rules.specs.Queue.{queue_values}
use Rattle.rinda_rules.specs.Cases.{asked_doubt}
use Rattle.rinda_rules.specs.Starts.{closed_as, deadline_of, renewer_by, doubt_of, is_doubted_by}
use Rattle.rinda_notify.specs.declared.note.Note.{Note}
use Rattle.rinda_notify.specs.declared.note.Popped.{Popped}
use Rattle.rinda_notify.specs.declared.note.Popped.TheVariants as popped

-- The notifiers as they stand, and as they are ahead: so they will stand after a commit. Both rise
-- by id.
pub record Standing : Type 0 where
  pub list : List Note
  pub ahead : List Note

-- both alike
abbrev pub settled : List Note → Standing
settled notes = record { list = notes; ahead = notes }

abbrev pub note_at : ℕ → List Note → Option Note
note_at id notes = row_of (λ n. n.id) id notes

-- the notifier with that id is changed
abbrev pub with_note : ℕ → (Note → Note) → List Note → List Note
with_note id change notes = changed (λ n. n.id) id change notes

abbrev pub without_note : ℕ → List Note → List Note
without_note id notes = without (λ n. n.id) id notes

-- A notifier of a plain space, as a caller sees it: with what is left of its queue.
abbrev pub note_of : List Raised → Notifier → Note
note_of events n = record {
  id = n.id;
  event = n.event;
  pattern = n.pattern;
  deadline = n.deadline;
  renewer = n.renewer;
  doubt = n.doubt;
  state = closed_as n.state;
  queue = queue_values n events;
}

-- Queues.

abbrev pub first : List Tree → Option Tree
first [] = None
first (event ∷ events) = Some event

abbrev pub rest : List Tree → List Tree
rest [] = []
rest (event ∷ events) = events

abbrev pub without_last : List Tree → List Tree
without_last events = take (length events - 1) events

abbrev pub first_at : Option Note → Option Tree
first_at None = None
first_at (Some n) = first n.queue

-- Raise: the event joins the queue of each notifier that runs and hears it, doubted or not.

abbrev pub is_open : NoteState → Bool
is_open state.Running = true
is_open (state.Closed last) = false

-- an event as a notifier gives it: its name and the tuple
abbrev pub event_of : Happening → Tuple → Tree
event_of what tuple = roll-Tree (Tree-F.List (text_of what ∷ value_of tuple ∷ []))

-- it runs, and its event pattern suits the name, and its pattern matches the tuple
unfoldable pub listens_to : Tree → Tuple → Note → Bool
listens_to name tuple n = is_open n.state && (suits n.event name && matches n.pattern tuple)

abbrev pub listens : Happening → Tuple → Note → Bool
listens what tuple n = listens_to (text_of what) tuple n

abbrev pub queued : Tree → Note → Note
queued event n = record n { queue = n.queue ++ event ∷ [] }

abbrev pub told : Happening → Tuple → Note → Note
told what tuple n = if listens what tuple n then queued (event_of what tuple) n else n

-- Close: a notifier has ended so, and keeps its queue.

abbrev pub closed : Last → Note → Note
closed last n = record n { state = state.Closed last }

abbrev pub is_open_at : Option Note → Bool
is_open_at None = false
is_open_at (Some n) = is_open n.state

-- one that runs is closed
abbrev pub shut_note : Last → Note → Note
shut_note last n = if is_open n.state then closed last n else n

-- Leases and doubts.

-- it has another lease, and is no longer doubted
abbrev pub renewed : Option ℕ → Option Remote → Note → Note
renewed deadline renewer n =
    record n { deadline = deadline; renewer = renewer; doubt = doubt.No }

-- its renewer gave it that deadline; where that is over, nobody is asked again
abbrev pub answered : Option ℕ → ℕ → Note → Note
answered deadline now n = renewed deadline (renewer_of deadline n.renewer now) n

abbrev pub doubted : Note → Note
doubted n = record n { doubt = doubt.Waiting }

abbrev pub asked : Note → Note
asked n = record n { doubt = asked_doubt n.doubt }

-- Pop: the first event of the queue; where there is none, whether the notifier has ended.

abbrev pub dry : NoteState → Popped
dry state.Running = popped.Empty
dry (state.Closed last) = popped.Closed

-- the same of one that may not be there
abbrev pub dry_at : Option Note → Popped
dry_at None = popped.Empty
dry_at (Some n) = dry n.state

abbrev pub given : NoteState → List Tree → Popped
given state [] = dry state
given state (event ∷ events) = popped.Event event

abbrev pub pop_of : Option Note → Popped
pop_of None = popped.Empty
pop_of (Some n) = given n.state n.queue

abbrev pub advanced : Note → Note
advanced n = record n { queue = rest n.queue }

-- what is given has left the queue; one that was closed and has nothing to give is gone
abbrev pub left_by : ℕ → Popped → List Note → List Note
left_by id (popped.Event event) notes = with_note id advanced notes
left_by id popped.Closed notes = without_note id notes
left_by id popped.Empty notes = notes

-- Start: a stored notifier and its lease.

abbrev pub loaded : StartNote → Option StartLease → Note
loaded stored lease = record {
  id = stored.row.id;
  event = stored.row.event;
  pattern = stored.row.pattern;
  deadline = deadline_of lease;
  renewer = renewer_by lease;
  doubt = doubt_of (is_doubted_by lease);
  state = stored.row.state;
  queue = stored.events;
}
