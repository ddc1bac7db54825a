-- What serves that which is touched.
use Rattle.std.specs.Prelude.{◌≡◌, ℕ, Bool, true, false, not, ◌&&◌, ◌||◌, ◌==◌, List, [], ◌∷◌, map, filter, Option, Some, None, if◌then◌else◌}
use Rattle.std.specs.List.{list_all, list_any}
use Rattle.rinda_tuple.specs.Tuples.{value_of}
use Rattle.rinda_rules.specs.declared.out.Out.TheVariants as out
use Rattle.rinda_rules.specs.declared.turn.Pick.{Pick}
use Rattle.rinda_rules.specs.declared.row.RequestState.TheVariants as state
use Rattle.rinda_rules.specs.declared.plain.Entry.{Entry}
use Rattle.rinda_rules.specs.declared.plain.Request.{Request}
use Rattle.rinda_rules.specs.Rows.{changed}
use Rattle.rinda_rules.specs.Space.{Plain, request_at, is_read}
use Rattle.rinda_rules.specs.Phases.{in_state}
use Rattle.rinda_effects.specs.Touches.{wants}

-- the request waits to read the tuple
abbrev pub reads : ℕ → Entry → Request → Bool
reads now t r = is_read r.kind && wants now r t

-- the request waits to take or to hold the tuple
abbrev pub takes : ℕ → Entry → Request → Bool
takes now t r = not (is_read r.kind) && wants now r t

-- that row is there, and waits to read the tuple
abbrev pub reads_row : ℕ → Entry → Option Request → Bool
reads_row now t None = false
reads_row now t (Some r) = reads now t r

-- the request once it has read the tuple
abbrev pub told_value : Entry → Request → Request
told_value t r = in_state (state.Answered (out.Answer (value_of t.value))) r

-- the request once each that waits to read the tuple has read it
abbrev pub read_row : ℕ → Entry → Request → Request
read_row now t r = if reads now t r then told_value t r else r

-- the space once each request that waits to read the tuple has read it
abbrev pub read_all : Entry → Plain → Plain
read_all t s = record s { requests = map (read_row s.clock t) s.requests }

-- the requests once those with these ids have read the tuple, one after another
abbrev pub answered_all : Entry → List ℕ → List Request → List Request
answered_all t [] rows = rows
answered_all t (id ∷ ids) rows = answered_all t ids (changed (λ r. r.id) id (told_value t) rows)

-- the ids of the requests that wait to read the tuple, in rising id
abbrev pub reader_ids : Plain → Entry → List ℕ
reader_ids s t = map (λ r. r.id) (filter (reads s.clock t) s.requests)

-- each of the requests gets the tuple
abbrev pub picks_of : ℕ → List ℕ → List Pick
picks_of tuple ids = map (λ id. record { request = id; tuple = tuple }) ids

-- no id stands there twice
abbrev pub once : List ℕ → Bool
once [] = true
once (id ∷ ids) = list_all (λ i. not (i == id)) ids && once ids

-- The requests that wait to read the tuple, in any order.
pub record Readers (s : Plain) (t : Entry) (ids : List ℕ) : Type 0 where
  pub distinct : once ids ≡ true
  pub each : list_all (λ id. reads_row s.clock t (request_at s id)) ids ≡ true
  pub all : list_all (λ r. not (reads s.clock t r) || list_any (λ id. id == r.id) ids) s.requests
      ≡ true

-- nobody waits to take or to hold the tuple
abbrev pub no_taker : Plain → Entry → Bool
no_taker s t = list_all (λ r. not (takes s.clock t r)) s.requests
