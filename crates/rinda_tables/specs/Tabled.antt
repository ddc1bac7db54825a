-- What tables hold as they stand, and as they are ahead.
use Rattle.std.specs.Prelude.{◌≡◌, ℕ, true, false, [], ◌∷◌, ◌++◌, Option, Some, None, length}
use Rattle.drb_tree.specs.declared.Tree.{Tree}
use Rattle.drb_tree.specs.declared.Remote.{Remote}
use Rattle.rinda_tuple.specs.declared.tuple.Tuple.{Tuple}
use Rattle.rinda_tuple.specs.declared.tuple.Template.{Template}
use Rattle.rinda_rules.specs.declared.event.Kind.{Kind}
use Rattle.rinda_rules.specs.declared.object.Doubt.TheVariants.{No}
use Rattle.rinda_rules.specs.declared.object.Last.{Last}
use Rattle.rinda_rules.specs.declared.object.Last.TheVariants as last
use Rattle.rinda_rules.specs.declared.object.ObjectKind.TheVariants as object
use Rattle.rinda_rules.specs.declared.out.Out.{Out}
use Rattle.rinda_rules.specs.declared.out.Out.TheVariants as out
use Rattle.rinda_rules.specs.declared.row.NoteState.{NoteState}
use Rattle.rinda_rules.specs.declared.row.NoteState.TheVariants as state
use Rattle.rinda_rules.specs.declared.row.RequestState.TheVariants.{Reserved}
use Rattle.rinda_rules.specs.Cases.{minted, asked_doubt, pop_notifier}
use Rattle.rinda_rules.specs.Phases.{ended}
use Rattle.rinda_notify.specs.declared.note.Popped.{Popped}
use Rattle.rinda_notify.specs.declared.note.Popped.TheVariants as popped
use Rattle.rinda_notify.specs.Tables.{below as notes_below}
use Rattle.rinda_tables.specs.Undoing.{below}
use Rattle.rinda_rules.specs.declared.plain.Entry.{Entry}
use Rattle.rinda_rules.specs.declared.plain.Request.{Request}
use Rattle.rinda_rules.specs.declared.plain.Notifier.{Notifier}
use Rattle.rinda_rules.specs.declared.plain.Hearing.TheVariants.{Running}
use Rattle.rinda_rules.specs.Space.{Plain, tuple_at, request_at, notifier_at}
use Rattle.rinda_tables.specs.Deadlines.{ahead_at, list_at}
use Rattle.rinda_tables.specs.Holds.{Held, Holds}
use Rattle.rinda_tables.specs.declared.tables.Tables.{Tables}

-- ahead, at the time and as shut as they say
abbrev pub ahead_of : Tables → Held
ahead_of t = record {
  clock = t.clock;
  shut = t.shut;
  ids = t.ids.ahead;
  tuples = t.tuples.ahead;
  requests = t.requests.ahead;
  notes = t.notes.ahead;
  stages = ahead_at t.deadlines;
}

-- as they stand
abbrev pub list_of : Tables → Held
list_of t = record {
  clock = t.stood_at;
  shut = t.stood_shut;
  ids = t.ids.list;
  tuples = t.tuples.list;
  requests = t.requests.list;
  notes = t.notes.list;
  stages = list_at t.deadlines;
}

-- what stands is as it was, and so is the time
pub record Stays (old new : Tables) : Type 0 where
  pub stood_at : new.stood_at ≡ old.stood_at
  pub stood_shut : new.stood_shut ≡ old.stood_shut
  pub clock : new.clock ≡ old.clock
  pub ids : new.ids.list ≡ old.ids.list
  pub tuples : new.tuples.list ≡ old.tuples.list
  pub requests : new.requests.list ≡ old.requests.list
  pub notes : new.notes.list ≡ old.notes.list
  pub deadlines : (q : ℕ) → list_at new.deadlines q ≡ list_at old.deadlines q

-- Where they held a space ahead, they now hold what became of it.
abbrev pub Becomes : (Plain → Plain) → Tables → Tables → Type 0
Becomes f old new = (s : Plain) → Holds s (ahead_of old) → Holds (f s) (ahead_of new)

-- the same, by what they held of the tuple with that id
abbrev pub BecomesBy : ℕ → (Entry → Plain → Plain) → Tables → Tables → Type 0
BecomesBy id f old new = (s : Plain) (e : Entry) → Holds s (ahead_of old) →
    tuple_at s id ≡ Some e → Holds (f e s) (ahead_of new)

-- and of the request
abbrev pub BecomesFor : ℕ → (Request → Plain → Plain) → Tables → Tables → Type 0
BecomesFor id f old new = (s : Plain) (r : Request) → Holds s (ahead_of old) →
    request_at s id ≡ Some r → Holds (f r s) (ahead_of new)

-- and of the notifier
abbrev pub BecomesOf : ℕ → (Notifier → Plain → Plain) → Tables → Tables → Type 0
BecomesOf id f old new = (s : Plain) (n : Notifier) → Holds s (ahead_of old) →
    notifier_at s id ≡ Some n → Holds (f n s) (ahead_of new)

-- No row was added in this turn, and the next id is above all that stand.
pub record Fresh (t : Tables) : Type 0 where
  pub next : t.ids.list.next ≡ t.ids.ahead.next
  pub tuple : t.tuples.added ≡ false
  pub request : t.requests.added ≡ false
  pub tuples : below (λ t. t.id) t.ids.ahead.next t.tuples.list ≡ true
  pub requests : below (λ r. r.id) t.ids.ahead.next t.requests.list ≡ true
  pub notes : notes_below t.ids.ahead.next t.notes.list ≡ true
  pub notes_ahead : notes_below t.ids.ahead.next t.notes.ahead ≡ true

-- a new tuple with that lease
abbrev pub new_entry : ℕ → Tuple → Option ℕ → Option Remote → Entry
new_entry id value deadline renewer = record {
  id = id;
  value = value;
  deadline = deadline;
  renewer = renewer;
  holder = None;
  marked = false;
  doubt = No;
}

-- the space with a new tuple
abbrev pub with_new_tuple : Tuple → Option ℕ → Option Remote → Plain → Plain
with_new_tuple value deadline renewer s =
    record (minted s) { tuples = s.tuples ++ new_entry s.next value deadline renewer ∷ [] }

-- a new request with that lease
abbrev pub new_asking : ℕ → ℕ → Kind → Template → Option ℕ → Option Remote → Request
new_asking id caller kind pattern deadline renewer = record {
  id = id;
  caller = caller;
  kind = kind;
  pattern = pattern;
  deadline = deadline;
  renewer = renewer;
  marked = false;
  doubt = No;
  state = Reserved;
}

-- the space with a new request
abbrev pub with_new_request : ℕ → Kind → Template → Option ℕ → Option Remote → Plain → Plain
with_new_request caller kind pattern deadline renewer s = record (minted s) {
  requests = s.requests ++ new_asking s.next caller kind pattern deadline renewer ∷ [];
}

-- a new notifier with that lease, which hears what is raised from then on
abbrev pub new_hearer : ℕ → ℕ → Tree → Template → Option ℕ → Option Remote → Notifier
new_hearer id since event pattern deadline renewer = record {
  id = id;
  event = event;
  pattern = pattern;
  deadline = deadline;
  renewer = renewer;
  doubt = No;
  state = Running;
  since = since;
  popped = 0;
}

-- the space with a new notifier
abbrev pub with_new_notifier : Tree → Template → Option ℕ → Option Remote → Plain → Plain
with_new_notifier event pattern deadline renewer s = record (minted s) {
  notifiers = s.notifiers
      ++ new_hearer s.next (length s.events) event pattern deadline renewer ∷ [];
}

-- Where they held a space ahead, they hold what became of it, with a new object of that id.
abbrev pub Mints : (Plain → Plain) → ℕ → Tables → Tables → Type 0
Mints f id old new = (s : Plain) → Holds s (ahead_of old) →
    (id ≡ s.next) × Holds (f s) (ahead_of new)

-- both hold what was held
pub record Settles (was : Held) (new : Tables) : Type 0 where
  pub ahead : (s : Plain) → Holds s was → Holds s (ahead_of new)
  pub list : (s : Plain) → Holds s was → Holds s (list_of new)

-- no row was added
pub record AddsNone (old new : Tables) : Type 0 where
  pub tuple : new.tuples.added ≡ old.tuples.added
  pub request : new.requests.added ≡ old.requests.added

-- none was added since what stands
pub record Unadded (t : Tables) : Type 0 where
  pub tuple : t.tuples.added ≡ false
  pub request : t.requests.added ≡ false

-- its renewer is being asked, if it waited for that
abbrev pub asked_notifier : Notifier → Notifier
asked_notifier n = record n { doubt = asked_doubt n.doubt }

-- the space once a tuple got an id that has expired by then
abbrev pub with_passed_tuple : Plain → Plain
with_passed_tuple s = ended object.Entry s.next last.Expired (minted s)

-- how a notifier in that state has ended
abbrev pub last_in : NoteState → Last
last_in state.Running = last.Done
last_in (state.Closed l) = l

-- the answer to a pop that gave that, where that is the answer of one who runs and has nothing to give
abbrev pub pop_answer : Out → Popped → Out
pop_answer nothing (popped.Event event) = out.Event event
pop_answer nothing popped.Closed = out.Closed
pop_answer nothing popped.Empty = nothing

-- What was given is what the rules give, and the tables hold what they leave.
abbrev pub Pops : ℕ → Popped → Tables → Tables → Type 0
Pops id given old new = (s : Plain) (n : Notifier) (nothing : Out) → Holds s (ahead_of old) →
    notifier_at s id ≡ Some n → let o = pop_notifier s nothing n
    in (pop_answer nothing given ≡ o.out) × Holds o.after (ahead_of new)
