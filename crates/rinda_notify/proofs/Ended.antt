-- What a pop gives, and what a start loads.
use Rattle.std.proofs.Common.{◌≡◌, ℕ, List, [], ◌∷◌, map, Some, None, Option, refl, sym, ◌∙◌, ap}
use Rattle.rinda_rules.specs.declared.plain.Notifier.{Notifier}
use Rattle.rinda_rules.specs.declared.plain.Hearing.{Hearing}
use Rattle.rinda_rules.specs.declared.plain.Raised.{Raised}
use Rattle.rinda_rules.specs.declared.start.StartNote.{StartNote}
use Rattle.rinda_rules.specs.declared.start.StartLease.{StartLease}
use Rattle.rinda_rules.specs.Space.{event_value}
use Rattle.rinda_rules.specs.Queue.{queue, queue_values}
use Rattle.drb_tree.specs.declared.Tree.{Tree}
use Rattle.drb_tree.specs.declared.Remote.{Remote}
use Rattle.rinda_tuple.specs.declared.tuple.Template.{Template}
use Rattle.rinda_rules.specs.declared.object.Doubt.{Doubt}
use Rattle.rinda_rules.specs.declared.row.NoteState.{NoteState}
use Rattle.rinda_rules.specs.Starts.{Each, NoteMatches, lease_of, closed_as, deadline_of, renewer_by, doubt_of, is_doubted_by}
use Rattle.rinda_notify.specs.declared.note.Note.{Note}
use Rattle.rinda_notify.specs.Notes.{note_of, pop_of, given, loaded, dry, dry_at, first, first_at}
use Rattle.rinda_notify.specs.Laws.{notes_of}

pub pop_is : (events : List Raised) (n : Notifier) (st : Hearing) (q : List Raised) (found : Option Note) → found ≡ Some (note_of events n) → n.state ≡ st → queue n events ≡ q → pop_of found ≡ given (closed_as st) (map event_value q)
pop_is events n st q found e f g =
    ap pop_of e
    ∙ ap (λ (st : Hearing). given (closed_as st) (map event_value (queue n events))) f
    ∙ ap (λ (q : List Raised). given (closed_as st) (map event_value q)) g

note : ℕ → Tree → Template → Option ℕ → Option Remote → Doubt → NoteState → List Tree → Note
note id event pattern deadline renewer doubt st q = record {
  id = id;
  event = event;
  pattern = pattern;
  deadline = deadline;
  renewer = renewer;
  doubt = doubt;
  state = st;
  queue = q;
}

same : (id id' : ℕ) (event event' : Tree) (pattern pattern' : Template) (deadline deadline' : Option ℕ) (renewer renewer' : Option Remote) (doubt doubt' : Doubt) (st st' : NoteState) (q q' : List Tree) → id ≡ id' → event ≡ event' → pattern ≡ pattern' → deadline ≡ deadline' → renewer ≡ renewer' → doubt ≡ doubt' → st ≡ st' → q ≡ q' → note id event pattern deadline renewer doubt st q ≡ note id' event' pattern' deadline' renewer' doubt' st' q'
same id id' event event' pattern pattern' deadline deadline' renewer renewer' doubt doubt' st st' q q' a b c d e f g h = rw (a, b, c, d, e, f, g, h) refl

pub loads : (leases : List StartLease) (events : List Raised) (stored : StartNote) (n : Notifier) → NoteMatches leases events stored n → note_of events n ≡ loaded stored (lease_of stored.row.id leases)
unfolding note
loads leases events stored n m =
    same n.id stored.row.id n.event stored.row.event n.pattern stored.row.pattern n.deadline _ n.renewer _ n.doubt _ (closed_as n.state) stored.row.state (queue_values n events) stored.events
    m.id m.event m.pattern
    (m.deadline ∙ ap (λ (id : ℕ). deadline_of (lease_of id leases)) m.id)
    (m.renewer ∙ ap (λ (id : ℕ). renewer_by (lease_of id leases)) m.id)
    (m.doubt ∙ ap (λ (id : ℕ). doubt_of (is_doubted_by (lease_of id leases))) m.id)
    m.state m.queue

pub loads_all : (leases : List StartLease) (events : List Raised) (stored : List StartNote) (ns : List Notifier) → Each (NoteMatches leases events) stored ns → notes_of events ns ≡ map (λ n. loaded n (lease_of n.row.id leases)) stored
loads_all leases events [] [] m = refl
loads_all leases events (x ∷ xs) [] m = absurd m
loads_all leases events [] (n ∷ ns) m = absurd m
loads_all leases events (x ∷ xs) (n ∷ ns) m = rw (loads leases events x n m.0, loads_all leases events xs ns m.1) refl

-- where nothing is left, what is given is whether the notifier was closed
dry-given : (n : Note) (q : List Tree) → n.queue ≡ q → first q ≡ None → dry n.state ≡ given n.state n.queue
dry-given n [] e f = ap (λ (q : List Tree). given n.state q) (sym e)
dry-given n (x ∷ xs) e f = cc

pub dry-pop : (found : Option Note) → first_at found ≡ None → dry_at found ≡ pop_of found
dry-pop None e = refl
dry-pop (Some n) e = dry-given n n.queue refl e
