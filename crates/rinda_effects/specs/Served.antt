-- What is proved of serving.
use Rattle.std.specs.Prelude.{◌≡◌, ◌+◌, ◌==◌, Bool, true, false, List, [], ◌∷◌, ◌++◌, ℕ, map, filter, length, Option, Some, None}
use Rattle.std.specs.List.{list_all}
use Rattle.rinda_rules.specs.declared.turn.Pick.{Pick}
use Rattle.rinda_rules.specs.declared.plain.Entry.{Entry}
use Rattle.rinda_rules.specs.declared.plain.Request.{Request}
use Rattle.rinda_rules.specs.Space.{Plain, tuple_at, request_at, is_live, can_be_served, is_waiting}
use Rattle.rinda_rules.specs.Phases.{aged, may_serve, served, served_with, Serve}
use Rattle.rinda_rules.specs.Sound.{Sound}
use Rattle.rinda_effects.specs.Unserved.{Unserved}
use Rattle.rinda_effects.specs.Touches.{Touched, NoRow, ATuple, ARequest, wants, waits_only}
use Rattle.rinda_effects.specs.Serves.{Readers, read_row, read_all, picks_of, takes, no_taker, answered_all, reader_ids}

-- Aging touches no row.
abbrev pub AgingTouchesNone : Type 0
AgingTouchesNone = (touched : Touched) (s : Plain) → waits_only touched s ≡ true →
    waits_only touched (aged s) ≡ true

-- No row is touched: no picks.
abbrev pub NothingIsServed : Type 0
NothingIsServed = (s : Plain) → Unserved NoRow s → Serve s [] s

-- A tuple is touched that isn't there, or isn't live: no picks.
abbrev pub DeadTupleIsNotServed : Type 0
DeadTupleIsNotServed = (id : ℕ) (s : Plain) →
    Unserved (ATuple id) s → ((t : Entry) → tuple_at s id ≡ Some t → is_live s.clock t ≡ false) →
    Serve s [] s

-- A tuple is touched: each request that waits to read it is told, and none waits to take it.
abbrev pub TupleIsRead : Type 0
TupleIsRead = (s : Plain) (t : Entry) (ids : List ℕ) →
    Unserved (ATuple t.id) s → tuple_at s t.id ≡ Some t → Readers s t ids → no_taker s t ≡ true →
    Serve s (picks_of t.id ids) (read_all t s)

-- A tuple is touched: each request that waits to read it is told, and then one takes it or holds it.
abbrev pub TupleIsTaken : Type 0
TupleIsTaken = (s : Plain) (t : Entry) (ids : List ℕ) (r : Request) →
    Unserved (ATuple t.id) s → tuple_at s t.id ≡ Some t → Readers s t ids →
    request_at s r.id ≡ Some r → takes s.clock t r ≡ true →
    Serve s (picks_of t.id ids ++ record { request = r.id; tuple = t.id } ∷ [])
    (served_with r t (read_all t s))

-- A request is touched that isn't there, or doesn't wait beside a match: no picks.
abbrev pub LoneRequestIsNotServed : Type 0
LoneRequestIsNotServed = (id : ℕ) (s : Plain) →
    Unserved (ARequest id) s →
    ((r : Request) → request_at s id ≡ Some r → can_be_served s r ≡ false) → Serve s [] s

-- A request is touched: it gets a match.
abbrev pub RequestIsServed : Type 0
RequestIsServed = (s : Plain) (r : Request) (t : Entry) →
    Unserved (ARequest r.id) s → request_at s r.id ≡ Some r → tuple_at s t.id ≡ Some t →
    wants s.clock r t ≡ true →
    Serve s (record { request = r.id; tuple = t.id } ∷ []) (served_with r t s)

-- The requests that wait to read a tuple, in rising id, are its readers.
abbrev pub ReadersInOrder : Type 0
ReadersInOrder = (s : Plain) (t : Entry) → Sound s → Readers s t (reader_ids s t)

-- Readers that are answered one after another are answered as all at once.
abbrev pub AnswersAreRead : Type 0
AnswersAreRead = (s : Plain) (t : Entry) (ids : List ℕ) →
    Sound s → Readers s t ids → answered_all t ids s.requests ≡ map (read_row s.clock t) s.requests

-- how many requests wait
abbrev pub waiting : Plain → ℕ
waiting s = length (filter is_waiting s.requests)

-- After a pick one request less waits.
abbrev pub PickServesOne : Type 0
PickServesOne = (s : Plain) (pick : Pick) → Sound s → may_serve s pick ≡ true →
    waiting (served s pick) + 1 ≡ waiting s

-- the pick gives that tuple, or to that request
abbrev pub names : Touched → Pick → Bool
names NoRow pick = false
names (ATuple id) pick = pick.tuple == id
names (ARequest id) pick = pick.request == id

-- However such a space is served, each pick is of what was touched: where no row was, there are none.
abbrev pub PicksNameTouched : Type 0
PicksNameTouched = (touched : Touched) (s : Plain) (picks : List Pick) (s' : Plain) →
    Unserved touched s → Serve s picks s' → list_all (names touched) picks ≡ true

-- A request that was touched gets one pick or none.
abbrev pub RequestIsServedOnce : Type 0
RequestIsServedOnce = (id : ℕ) (s : Plain) (pick : Pick) (picks : List Pick) (s' : Plain) →
    Unserved (ARequest id) s → Serve s (pick ∷ picks) s' → picks ≡ []

-- who takes or holds the tuple in the end: nobody who would is there, or one that is
abbrev pub Taker : Plain → Entry → Option Request → Type 0
Taker s t None = no_taker s t ≡ true
Taker s t (Some r) = (request_at s r.id ≡ Some r) × (takes s.clock t r ≡ true)

abbrev pub last_pick : Entry → Option Request → List Pick
last_pick t None = []
last_pick t (Some r) = record { request = r.id; tuple = t.id } ∷ []

abbrev pub taken_by : Entry → Option Request → Plain → Plain
taken_by t None s = s
taken_by t (Some r) s = served_with r t s

-- each request that waits to read the tuple is told, in any order, and then at most one takes it or holds it
pub record ServedTuple (s : Plain) (t : Entry) (picks : List Pick) (s' : Plain) : Type 0 where
  pub ids : List ℕ
  pub taker : Option Request
  pub readers : Readers s t ids
  pub takes : Taker s t taker
  pub picks_are : picks ≡ picks_of t.id ids ++ last_pick t taker
  pub leads : s' ≡ taken_by t taker (read_all t s)

-- However a tuple that was touched is served, it is served so.
abbrev pub TupleIsServedSo : Type 0
TupleIsServedSo = (s : Plain) (t : Entry) (picks : List Pick) (s' : Plain) →
    Unserved (ATuple t.id) s → tuple_at s t.id ≡ Some t → Serve s picks s' →
    ServedTuple s t picks s'
