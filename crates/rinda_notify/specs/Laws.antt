-- What each happening in a plain space does to its notifiers, as a caller sees them.
use Rattle.std.specs.Prelude.{◌≡◌, ℕ, ◌+◌, true, List, [], ◌∷◌, ◌++◌, map, length, Option, Some}
use Rattle.std.specs.List.{list_all}
use Rattle.drb_tree.specs.declared.Tree.{Tree}
use Rattle.drb_tree.specs.declared.Remote.{Remote}
use Rattle.rinda_tuple.specs.declared.tuple.Template.{Template}
use Rattle.rinda_tuple.specs.declared.lease.Lease.{Lease}
use Rattle.rinda_tuple.specs.Lives.{deadline}
use Rattle.rinda_rules.specs.declared.object.Last.{Last}
use Rattle.rinda_rules.specs.declared.object.Last.TheVariants as last
use Rattle.rinda_rules.specs.declared.object.Doubt.TheVariants as doubt
use Rattle.rinda_rules.specs.declared.row.NoteState.TheVariants as state
use Rattle.rinda_rules.specs.declared.plain.Hearing.TheVariants as hearing
use Rattle.rinda_rules.specs.declared.plain.Notifier.{Notifier}
use Rattle.rinda_rules.specs.declared.plain.Raised.{Raised}
use Rattle.rinda_rules.specs.declared.start.Start.{Start}
use Rattle.rinda_rules.specs.Rows.{changed, without, rising}
use Rattle.rinda_rules.specs.Space.{Plain, notifier_at, is_running, renewer_of}
use Rattle.rinda_rules.specs.Queue.{queue}
use Rattle.rinda_rules.specs.Phases.{close_after, doubt_notifier}
use Rattle.rinda_rules.specs.Cases.{renewed_notifier, asked_doubt, shut_notifier, new_notifier}
use Rattle.rinda_rules.specs.Sound.{hears_within}
use Rattle.rinda_rules.specs.Starts.{StandsFor, lease_of}
use Rattle.rinda_notify.specs.declared.note.Note.{Note}
use Rattle.rinda_notify.specs.declared.note.Popped.TheVariants as popped
use Rattle.rinda_notify.specs.Notes.{note_of, note_at, with_note, told, closed, shut_note, renewed, answered, doubted, asked, pop_of, left_by, loaded, event_of}

-- the notifiers, in a space in which those events were raised
abbrev pub notes_of : List Raised → List Notifier → List Note
notes_of events notifiers = map (note_of events) notifiers

-- the notifiers of a space
abbrev pub notes_in : Plain → List Note
notes_in s = notes_of s.events s.notifiers

abbrev pub with_notifier_at : ℕ → (Notifier → Notifier) → Plain → List Notifier
with_notifier_at id change s = changed (λ n. n.id) id change s.notifiers

-- A table finds what the space finds.
abbrev pub NoteIsFound : Type 0
NoteIsFound = (s : Plain) (id : ℕ) (n : Notifier) → notifier_at s id ≡ Some n →
    note_at id (notes_in s) ≡ Some (note_of s.events n)

-- What is raised is told to all.
abbrev pub RaisedIsTold : Type 0
RaisedIsTold = (s : Plain) (e : Raised) →
    list_all (hears_within s.events) s.notifiers ≡ true →
    notes_of (s.events ++ e ∷ []) s.notifiers ≡ map (told e.what e.tuple) (notes_in s)

-- A running notifier that is closed after all that was raised has ended, and keeps its queue.
abbrev pub CloseIsClosed : Type 0
CloseIsClosed = (s : Plain) (id : ℕ) (n : Notifier) (last : Last) →
    rising (λ n. n.id) s.notifiers ≡ true →
    notifier_at s id ≡ Some n → is_running n.state ≡ true →
    notes_of s.events (with_notifier_at id (close_after last (length s.events)) s)
    ≡ with_note id (closed last) (notes_in s)

-- All running notifiers are closed.
abbrev pub ShutIsClosed : Type 0
ShutIsClosed = (s : Plain) →
    notes_of s.events (map (shut_notifier (length s.events)) s.notifiers)
    ≡ map (shut_note last.Canceled) (notes_in s)

-- A notifier that has events to give gives the first one, and keeps the rest.
abbrev pub PopGivesOne : Type 0
PopGivesOne = (s : Plain) (id : ℕ) (n : Notifier) (e : Raised) (rest : List Raised) →
    rising (λ n. n.id) s.notifiers ≡ true →
    notifier_at s id ≡ Some n → queue n s.events ≡ e ∷ rest →
    (pop_of (note_at id (notes_in s)) ≡ popped.Event (event_of e.what e.tuple))
    × (notes_of s.events (with_notifier_at id (λ n. record n { popped = n.popped + 1 }) s)
    ≡ left_by id (popped.Event (event_of e.what e.tuple)) (notes_in s))

-- One that runs and has nothing to give is empty.
abbrev pub PopIsEmpty : Type 0
PopIsEmpty = (s : Plain) (id : ℕ) (n : Notifier) →
    notifier_at s id ≡ Some n → queue n s.events ≡ [] → n.state ≡ hearing.Running →
    pop_of (note_at id (notes_in s)) ≡ popped.Empty

-- One that was closed and has nothing to give leaves.
abbrev pub PopIsClosed : Type 0
PopIsClosed = (s : Plain) (id : ℕ) (n : Notifier) (last : Last) (until : ℕ) →
    notifier_at s id ≡ Some n → queue n s.events ≡ [] → n.state ≡ hearing.Closed last until →
    (pop_of (note_at id (notes_in s)) ≡ popped.Closed)
    × (notes_of s.events (without (λ n. n.id) id s.notifiers)
    ≡ left_by id popped.Closed (notes_in s))

-- It has another lease.
abbrev pub RenewIsRenewed : Type 0
RenewIsRenewed = (s : Plain) (id : ℕ) (deadline : Option ℕ) (renewer : Option Remote) →
    notes_of s.events (with_notifier_at id (renewed_notifier deadline renewer) s)
    ≡ with_note id (renewed deadline renewer) (notes_in s)

-- Its renewer gave it a deadline.
abbrev pub AnswerIsAnswered : Type 0
AnswerIsAnswered = (s : Plain) (id : ℕ) (n : Notifier) (deadline : Option ℕ) →
    rising (λ n. n.id) s.notifiers ≡ true → notifier_at s id ≡ Some n →
    notes_of s.events
    (with_notifier_at id (renewed_notifier deadline (renewer_of deadline n.renewer s.clock)) s)
    ≡ with_note id (answered deadline s.clock) (notes_in s)

-- It is doubted.
abbrev pub DoubtIsDoubted : Type 0
DoubtIsDoubted = (s : Plain) (id : ℕ) →
    notes_of s.events (with_notifier_at id doubt_notifier s)
    ≡ with_note id doubted (notes_in s)

-- Its renewer is being asked.
abbrev pub AskIsAsked : Type 0
AskIsAsked = (s : Plain) (id : ℕ) →
    notes_of s.events (with_notifier_at id (λ n. record n { doubt = asked_doubt n.doubt }) s)
    ≡ with_note id asked (notes_in s)

-- a new notifier has an empty queue
abbrev pub new_note : Plain → Tree → Template → Lease → Note
new_note s event pattern lease = record {
  id = s.next;
  event = event;
  pattern = pattern;
  deadline = deadline lease.life s.clock;
  renewer = renewer_of (deadline lease.life s.clock) lease.renewer s.clock;
  doubt = doubt.No;
  state = state.Running;
  queue = [];
}

-- A new one comes behind all others.
abbrev pub NewIsStarted : Type 0
NewIsStarted = (s : Plain) (event : Tree) (pattern : Template) (lease : Lease) →
    notes_of s.events (s.notifiers ++ new_notifier s event pattern lease ∷ [])
    ≡ notes_in s ++ new_note s event pattern lease ∷ []

-- A start has the notifiers of each space for which it stands.
abbrev pub StartIsLoaded : Type 0
StartIsLoaded = (start : Start) (s : Plain) → StandsFor start s →
    notes_in s ≡ map (λ n. loaded n (lease_of n.row.id start.leases)) start.notes
