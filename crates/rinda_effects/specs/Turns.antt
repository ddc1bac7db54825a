-- Whole turns: what a space over tables is proved with. From any sound and settled start, of which the opening is one.
use Rattle.std.specs.Prelude.{◌≡◌, ℕ, ◌==◌, ◌&&◌, true, false, List, [], ◌∷◌, ◌++◌, Some, None}
use Rattle.rinda_rules.specs.declared.event.Event.{Event}
use Rattle.rinda_rules.specs.declared.event.Event.TheVariants.{Submit}
use Rattle.rinda_rules.specs.declared.out.Out.{Out}
use Rattle.rinda_rules.specs.declared.turn.Pick.{Pick}
use Rattle.rinda_rules.specs.declared.turn.Turn.{Turn}
use Rattle.rinda_rules.specs.declared.plain.Entry.{Entry}
use Rattle.rinda_rules.specs.declared.plain.Request.{Request}
use Rattle.rinda_rules.specs.Space.{Plain, opening, tuple_at, request_at, is_live, is_reserved, has_match, may_have, can_be_served}
use Rattle.rinda_rules.specs.Phases.{advanced, nothing_due, is_match, served_with}
use Rattle.rinda_rules.specs.Cases.{outcome}
use Rattle.rinda_rules.specs.Steps.{chooser, found_by, Step}
use Rattle.rinda_rules.specs.Nothing.{is_nothing}
use Rattle.rinda_rules.specs.Settled.{Settled}
use Rattle.rinda_rules.specs.Sound.{Sound}
use Rattle.rinda_rules.specs.Legal.{Legal, LegalFrom, plain_from, MayCome}
use Rattle.rinda_effects.specs.Unserved.{unserved, Unserved}
use Rattle.rinda_effects.specs.Touches.{Touched, NoRow, ATuple, ARequest, wants, touched_by}
use Rattle.rinda_effects.specs.Serves.{Readers, read_all, picks_of, takes, no_taker}

-- A sound space that is advanced is sound, and so is what the event then finds, in which nothing is due.
abbrev pub FoundIsSound : Type 0
FoundIsSound = (s : Plain) (at : ℕ) →
    Sound s → Sound (advanced s at) × Sound (found_by s at) × (nothing_due (found_by s at) ≡ true)

-- An event's own case that picks nothing keeps a space sound.
abbrev pub CaseIsSound : Type 0
CaseIsSound = (s : Plain) (caller : ℕ) (event : Event) → Sound s →
    Sound (outcome s caller event None).after

-- So does a Submit that is served at once.
abbrev pub MatchIsSound : Type 0
MatchIsSound = (s : Plain) (caller id : ℕ) (r : Request) (pick : Pick) →
    Sound s → chooser s caller (Submit id) ≡ Some r → is_match s r pick ≡ true →
    Sound (outcome s caller (Submit id) (tuple_at s pick.tuple)).after

-- After an event that picks nothing in its own case, only what it touched may be served.
abbrev pub EventTouchesOne : Type 0
EventTouchesOne = (s : Plain) (caller at : ℕ) (event : Event) →
    Sound s → Settled s → chooser (found_by s at) caller event ≡ None →
    Unserved (touched_by (found_by s at) event) (unserved s caller at event None)

-- After a Submit that is served at once, nothing may be.
abbrev pub MatchTouchesNone : Type 0
MatchTouchesNone = (s : Plain) (caller at id : ℕ) (r : Request) (pick : Pick) →
    Sound s → Settled s →
    chooser (found_by s at) caller (Submit id) ≡ Some r → is_match (found_by s at) r pick ≡ true →
    Unserved NoRow (unserved s caller at (Submit id) (tuple_at (found_by s at) pick.tuple))

-- A Submit of the caller's own reserved request chooses that one where it has a match, and picks that match.
abbrev pub SubmitChooses : Type 0
SubmitChooses = (s : Plain) (caller id : ℕ) (r : Request) (t : Entry) →
    request_at s id ≡ Some r → r.caller == caller ≡ true → is_reserved r.state ≡ true →
    tuple_at s t.id ≡ Some t → may_have s.clock r t ≡ true →
    (chooser s caller (Submit id) ≡ Some r)
    × (is_match s r (record { request = r.id; tuple = t.id }) ≡ true)

-- A Submit of any other request, or of none, chooses none.
abbrev pub SubmitChoosesNone : Type 0
SubmitChoosesNone = (s : Plain) (caller id : ℕ) →
    ((r : Request) → request_at s id ≡ Some r →
    (r.caller == caller && (is_reserved r.state && has_match s r)) ≡ false) →
    chooser s caller (Submit id) ≡ None

-- These turns may follow one another from a sound and settled start.
pub record Reached (start : Plain) (turns : List Turn) : Type 0 where
  pub sound : Sound start
  pub settled : Settled start
  pub legal : LegalFrom start turns

-- Every legal history is so reached from the opening.
abbrev pub OpeningIsReached : Type 0
OpeningIsReached = (turns : List Turn) → Legal turns → Reached opening turns

-- What is so reached is sound and settled.
abbrev pub ReachedIsSettled : Type 0
ReachedIsSettled = (start : Plain) (turns : List Turn) →
    Reached start turns → Sound (plain_from start turns) × Settled (plain_from start turns)

-- The turn may come after the old ones, and leads there.
pub record Made (start : Plain) (old : List Turn) (turn : Turn) (s : Plain) : Type 0 where
  pub may_come : MayCome (plain_from start old) turn
  pub reached : Reached start (old ++ turn ∷ [])
  pub leads : plain_from start (old ++ turn ∷ []) ≡ s

-- A step that isn't nothing makes a turn.
abbrev pub StepMakesTurn : Type 0
StepMakesTurn = (start : Plain) (old : List Turn) (turn : Turn) (s : Plain) →
    Reached start old →
    is_nothing (plain_from start old) turn.caller turn.at turn.event ≡ false →
    Step (plain_from start old) turn.caller turn.at turn.event turn.out turn.picks s →
    Made start old turn s

-- An event that isn't nothing comes after these turns, picks nothing in its own case, and touches that.
pub record Comes (start : Plain) (old : List Turn) (caller at : ℕ) (event : Event)
    (touched : Touched) : Type 0 where
  pub reached : Reached start old
  pub something : is_nothing (plain_from start old) caller at event ≡ false
  pub chooses : chooser (found_by (plain_from start old) at) caller event ≡ None
  pub touches : touched_by (found_by (plain_from start old) at) event ≡ touched

-- its turn, with these picks, and the space before they are served
abbrev pub turn_of : Plain → List Turn → ℕ → ℕ → Event → List Pick → Turn
turn_of start old caller at event picks = record {
  caller = caller;
  at = at;
  event = event;
  out = (outcome (found_by (plain_from start old) at) caller event None).out;
  picks = picks;
}

abbrev pub left_by : Plain → List Turn → ℕ → ℕ → Event → Plain
left_by start old caller at event = unserved (plain_from start old) caller at event None

-- It touches no row: no picks.
abbrev pub EventMakesTurn : Type 0
EventMakesTurn = (start : Plain) (old : List Turn) (caller at : ℕ) (event : Event) →
    Comes start old caller at event NoRow →
    Made start old (turn_of start old caller at event []) (left_by start old caller at event)

-- It touches a tuple, which is live: all that wait to read it do so, and nobody waits to take it.
abbrev pub ReadMakesTurn : Type 0
ReadMakesTurn = (start : Plain) (old : List Turn) (caller at : ℕ) (event : Event) (t : Entry)
    (ids : List ℕ) →
    let s = left_by start old caller at event in
    Comes start old caller at event (ATuple t.id) →
    tuple_at s t.id ≡ Some t → Readers s t ids → no_taker s t ≡ true →
    Made start old (turn_of start old caller at event (picks_of t.id ids)) (read_all t s)

-- It touches a tuple: all that wait to read it do so, and then one takes it or holds it.
abbrev pub TakeMakesTurn : Type 0
TakeMakesTurn = (start : Plain) (old : List Turn) (caller at : ℕ) (event : Event) (t : Entry)
    (ids : List ℕ) (r : Request) →
    let s = left_by start old caller at event in
    let picks = picks_of t.id ids ++ record { request = r.id; tuple = t.id } ∷ [] in
    Comes start old caller at event (ATuple t.id) →
    tuple_at s t.id ≡ Some t → Readers s t ids → request_at s r.id ≡ Some r →
    takes s.clock t r ≡ true →
    Made start old (turn_of start old caller at event picks) (served_with r t (read_all t s))

-- It touches a tuple that isn't there after all, or isn't live: no picks.
abbrev pub DeadMakesTurn : Type 0
DeadMakesTurn = (start : Plain) (old : List Turn) (caller at : ℕ) (event : Event) (id : ℕ) →
    let s = left_by start old caller at event in
    Comes start old caller at event (ATuple id) →
    ((t : Entry) → tuple_at s id ≡ Some t → is_live s.clock t ≡ false) →
    Made start old (turn_of start old caller at event []) s

-- It touches a request that has no match: no picks.
abbrev pub LoneMakesTurn : Type 0
LoneMakesTurn = (start : Plain) (old : List Turn) (caller at : ℕ) (event : Event) (id : ℕ) →
    let s = left_by start old caller at event in
    Comes start old caller at event (ARequest id) →
    ((r : Request) → request_at s id ≡ Some r → can_be_served s r ≡ false) →
    Made start old (turn_of start old caller at event []) s

-- It touches a request that has a match: one pick.
abbrev pub ServeMakesTurn : Type 0
ServeMakesTurn = (start : Plain) (old : List Turn) (caller at : ℕ) (event : Event) (r : Request)
    (t : Entry) →
    let s = left_by start old caller at event in
    let picks = record { request = r.id; tuple = t.id } ∷ [] in
    Comes start old caller at event (ARequest r.id) →
    request_at s r.id ≡ Some r → tuple_at s t.id ≡ Some t → wants s.clock r t ≡ true →
    Made start old (turn_of start old caller at event picks) (served_with r t s)

-- A Submit that is served at once: its own pick alone.
abbrev pub MatchMakesTurn : Type 0
MatchMakesTurn = (start : Plain) (old : List Turn) (caller at id : ℕ) (r : Request) (pick : Pick) →
    let s = plain_from start old in
    let ready = found_by s at in
    let choice = tuple_at ready pick.tuple in
    Reached start old → chooser ready caller (Submit id) ≡ Some r → is_match ready r pick ≡ true →
    Made start old (record {
      caller = caller;
      at = at;
      event = Submit id;
      out = (outcome ready caller (Submit id) choice).out;
      picks = pick ∷ [];
    }) (unserved s caller at (Submit id) choice)

-- From a sound and settled space every event has a step.
abbrev pub StepExists : Type 0
StepExists = (s : Plain) (caller at : ℕ) (event : Event) →
    Sound s → Settled s → (out : Out) × (picks : List Pick) × (s' : Plain)
    × Step s caller at event out picks s'
