-- What is known of the ids of a space. docs/SPACE.md, Rows.
use Rattle.std.specs.Prelude.{◌≡◌, ℕ, ◌+◌, ◌<◌, ◌≤◌, Bool, true, ◌&&◌, ◌||◌, ◌==◌, nat_lt, nat_le, List, [], ◌∷◌, ◌++◌, length, Option, Some, None, is_none, if◌then◌else◌}
use Rattle.std.specs.List.{list_all}
use Rattle.rinda_rules.specs.declared.object.ObjectKind.{ObjectKind}
use Rattle.rinda_rules.specs.declared.object.Last.{Last}
use Rattle.rinda_rules.specs.declared.plain.Ended.{Ended}
use Rattle.rinda_rules.specs.Rows.{row_of, without}
use Rattle.rinda_rules.specs.Space.{retained}
use Rattle.drb_ids.specs.declared.object.LiveId.{LiveId}
use Rattle.drb_ids.specs.declared.object.Looked.{Looked}
use Rattle.drb_ids.specs.declared.object.Looked.TheVariants as looked

-- the next id, the ids of the objects that are there, and the last that ended, in the order in which they ended
pub record Ids : Type 0 where
  pub next : ℕ
  pub live : List LiveId
  pub ended : List Ended

-- A table as it stands, and as the turn under way has made it.
pub record Ided : Type 0 where
  pub list : Ids
  pub ahead : Ids

-- both alike
abbrev pub settled : Ids → Ided
settled t = record { list = t; ahead = t }

-- before the first id is given out
abbrev pub no_ids : Ids
no_ids = record { next = 1; live = []; ended = [] }

abbrev pub live_at : Ids → ℕ → Option LiveId
live_at t id = row_of (λ l. l.id) id t.live

abbrev pub ended_at : Ids → ℕ → Option Ended
ended_at t id = row_of (λ e. e.id) id t.ended

abbrev pub looked_among : Ids → ℕ → Option LiveId → Option Ended → Looked
looked_among t id (Some l) e = looked.Live l.kind
looked_among t id None (Some e) = looked.Ended e.kind e.last
looked_among t id None None = if id == 0 || nat_le t.next id then looked.Never else looked.Recycled

-- what is known of an id
abbrev pub looked_up : Ids → ℕ → Looked
looked_up t id = looked_among t id (live_at t id) (ended_at t id)

-- the next id is given to an object of that kind
abbrev pub minted : ObjectKind → Ids → Ids
minted kind t = record
    t { next = t.next + 1; live = t.live ++ record { id = t.next; kind = kind } ∷ [] }

abbrev pub ended_among : ℕ → Last → Ids → Option LiveId → Ids
ended_among id last t None = t
ended_among id last t (Some l) = record t {
  live = without (λ l. l.id) id t.live;
  ended = retained (t.ended ++ record { id = id; kind = l.kind; last = last } ∷ []);
}

-- the object with that id has ended so: of those that ended the last 4,096 are known
abbrev pub ended_with : ℕ → Last → Ids → Ids
ended_with id last t = ended_among id last t (live_at t id)

-- no two have one id
abbrev pub are_distinct : {R : Type 0} → (R → ℕ) → List R → Bool
are_distinct key [] = true
are_distinct key (row ∷ rows) = is_none (row_of key (key row) rows) && are_distinct key rows

-- from 1 and below the next one
abbrev pub are_given : {R : Type 0} → (R → ℕ) → ℕ → List R → Bool
are_given key next rows = list_all (λ row. nat_lt 0 (key row) && nat_lt (key row) next) rows

-- A table may start so: its ids were given out, none stands twice, and at most 4,096 of them have ended.
pub record MayStart (next : ℕ) (live : List LiveId) (ended : List Ended) : Type 0 where
  pub first : 0 < next
  pub live_given : are_given (λ l. l.id) next live ≡ true
  pub ended_given : are_given (λ e. e.id) next ended ≡ true
  pub live_once : are_distinct (λ l. l.id) live ≡ true
  pub ended_once : are_distinct (λ e. e.id) ended ≡ true
  pub apart : list_all (λ l. is_none (row_of (λ e. e.id) l.id ended)) live ≡ true
  pub few : length ended ≤ 4096

-- it has this next id, these live ids, in whatever order they stand here, and these that ended, in this order
pub record StartsWith (next : ℕ) (live : List LiveId) (ended : List Ended) (t : Ids) : Type 0 where
  pub next_is : t.next ≡ next
  pub live_are : (id : ℕ) → live_at t id ≡ row_of (λ l. l.id) id live
  pub ended_are : t.ended ≡ ended
