-- What serves that which an event touched, over the tables of a space. docs/SPACE.md, Phases, Serve.
use Rattle.std.specs.Prelude.{◌≡◌, ℕ, not, List, [], ◌∷◌, ◌++◌, map, Option, Some, None, if◌then◌else◌}
use Rattle.rinda_rules.specs.declared.turn.Pick.{Pick}
use Rattle.rinda_rules.specs.declared.plain.Entry.{Entry}
use Rattle.rinda_rules.specs.declared.plain.Request.{Request}
use Rattle.rinda_rules.specs.Space.{Plain, tuple_at, request_at, is_free, is_live, is_read, is_waiting}
use Rattle.rinda_rules.specs.Phases.{Serve}
use Rattle.rinda_rules.specs.Cases.{read_by}
use Rattle.rinda_effects.specs.Touches as effect
use Rattle.rinda_effects.specs.Unserved.{Unserved}
use Rattle.rinda_effects.specs.Serves.{picks_of}
use Rattle.rinda_wait.specs.Waiting.{readers_of, taker_of}
use Rattle.rinda_bag.specs.Wanted.{least_wanted}
use Rattle.rinda_tables.specs.Holds.{Holds}
use Rattle.rinda_tables.specs.Tabled.{ahead_of}
use Rattle.rinda_tables.specs.declared.tables.Tables.{Tables}
use Rattle.rinda_serve.specs.declared.touched.Touched.{Touched}
use Rattle.rinda_serve.specs.declared.touched.Touched.TheVariants.{NoRow, ATuple, ARequest}

-- what is touched, as the effects of an event say it
abbrev pub seen : Touched → effect.Touched
seen NoRow = effect.NoRow
seen (ATuple id) = effect.ATuple id
seen (ARequest id) = effect.ARequest id

-- Where they held a space ahead in which nobody waits beside a match but for what was touched, these picks serve it,
-- and they hold what that leaves.
abbrev pub Serves : effect.Touched → Tables → Tables → List Pick → Type 0
Serves touched old new picks = (s : Plain) → Unserved touched s → Holds s (ahead_of old) →
    (s' : Plain) × Serve s picks s' × Holds s' (ahead_of new)

-- Where they held a space ahead, they now hold what became of it, by what they held of that request and that tuple.
abbrev pub BecomesWith : ℕ → ℕ → (Request → Entry → Plain → Plain) → Tables → Tables → Type 0
BecomesWith request tuple f old new = (s : Plain) (r : Request) (t : Entry) →
    Holds s (ahead_of old) → request_at s request ≡ Some r → tuple_at s tuple ≡ Some t →
    Holds (f r t s) (ahead_of new)

-- The same, where all that wait to read the tuple have read it, with their picks in rising id.
abbrev pub ReadsWith : ℕ → Tables → Tables → List Pick → Type 0
ReadsWith tuple old new picks = (s : Plain) (t : Entry) → Holds s (ahead_of old) →
    tuple_at s tuple ≡ Some t → (picks ≡ picks_of tuple (readers_of t.value s.requests))
    × Holds (record s { requests = map (read_by t.value) s.requests }) (ahead_of new)

-- the id of the first request that waits to take or to hold the tuple, where nobody holds it
abbrev pub taker_for : Entry → List Request → Option ℕ
taker_for t requests = if is_free t then taker_of t.value requests else None

-- the id of the first tuple that the request may have, where it waits
abbrev pub match_of : ℕ → List Entry → Option Request → Option ℕ
match_of now tuples None = None
match_of now tuples (Some r) =
    if is_waiting r then least_wanted now (not (is_read r.kind)) r.pattern tuples else None

-- Which picks serve what was touched.

-- the pick of the one who takes or holds the tuple, if there is one
abbrev pub taker_picks : ℕ → Option ℕ → List Pick
taker_picks tuple None = []
taker_picks tuple (Some request) = record { request = request; tuple = tuple } ∷ []

-- of a live tuple, those of all that wait to read it, in rising id, and then that of the first that waits to take or to
-- hold it, where nobody holds it
abbrev pub tuple_picks : ℕ → ℕ → List Request → Option Entry → List Pick
tuple_picks id now requests None = []
tuple_picks id now requests (Some t) =
    if is_live now t
    then picks_of id (readers_of t.value requests) ++ taker_picks id (taker_for t requests)
    else []

-- of a request, its least match
abbrev pub request_picks : ℕ → Option ℕ → List Pick
request_picks id None = []
request_picks id (Some tuple) = record { request = id; tuple = tuple } ∷ []

abbrev pub picks_for : effect.Touched → Plain → List Pick
picks_for effect.NoRow s = []
picks_for (effect.ATuple id) s = tuple_picks id s.clock s.requests (tuple_at s id)
picks_for (effect.ARequest id) s =
    request_picks id (match_of s.clock s.tuples (request_at s id))

-- Where they held a space ahead, these are those picks.
abbrev pub PicksFor : effect.Touched → Tables → List Pick → Type 0
PicksFor touched old picks = (s : Plain) → Holds s (ahead_of old) → picks ≡ picks_for touched s
