-- One list of what every id names that is live or among the last that ended, and how the other lists are in it.
use Rattle.std.specs.Prelude.{◌≡◌, ℕ, ◌+◌, ◌-◌, ◌≤◌, ◌<◌, Bool, true, false, ◌&&◌, nat_lt, nat_le, List, [], ◌∷◌, Option, Some, None, length, take, drop, if◌then◌else◌}
use Rattle.std.specs.List.{list_all}
use Rattle.std.specs.Map.{lookup, set_value, remove_entry}
use Rattle.std.specs.BTreeMap.{is_at, insert_entry}
use Rattle.std.specs.Ordering.{nat_cmp}
use Rattle.rinda_rules.specs.declared.object.ObjectKind.{ObjectKind}
use Rattle.rinda_rules.specs.declared.plain.Ended.{Ended}
use Rattle.rinda_rules.specs.Rows.{row_of, rising}
use Rattle.rinda_rules.specs.Space.{retained}
use Rattle.drb_ids.specs.Ids.{Ids, are_distinct}
use Rattle.drb_ids.specs.declared.object.LiveId.{LiveId}
use Rattle.drb_ids.specs.declared.object.Standing.{Standing}
use Rattle.drb_ids.specs.declared.object.Standing.TheVariants as standing

abbrev pub with_live : ℕ → Standing → List LiveId → List LiveId
with_live id (standing.Live kind) rest = record { id = id; kind = kind } ∷ rest
with_live id (standing.Ended kind last) rest = rest

-- the live ones
abbrev pub live_of : List (ℕ × Standing) → List LiveId
live_of [] = []
live_of (e ∷ es) = with_live e.0 e.1 (live_of es)

abbrev pub standing_at : ℕ → List (ℕ × Standing) → Option Standing
standing_at id es = lookup (is_at (nat_cmp id)) es

-- the live id, where it stands so
abbrev pub live_by : ℕ → Option Standing → Option LiveId
live_by id None = None
live_by id (Some (standing.Live kind)) = Some (record { id = id; kind = kind })
live_by id (Some (standing.Ended kind last)) = None

-- its kind
abbrev pub kind_by : Option Standing → Option ObjectKind
kind_by None = None
kind_by (Some (standing.Live kind)) = Some kind
kind_by (Some (standing.Ended kind last)) = None

-- the object that ended, where it stands so
abbrev pub ended_by : ℕ → Option Standing → Option Ended
ended_by id None = None
ended_by id (Some (standing.Live kind)) = None
ended_by id (Some (standing.Ended kind last)) = Some (record { id = id; kind = kind; last = last })

-- with these ids, which are live
abbrev pub with_all_live : List LiveId → List (ℕ × Standing) → List (ℕ × Standing)
with_all_live [] es = es
with_all_live (l ∷ ls) es = with_all_live ls (insert_entry nat_cmp es l.id (standing.Live l.kind))

-- with these, which have ended
abbrev pub with_all_ended : List Ended → List (ℕ × Standing) → List (ℕ × Standing)
with_all_ended [] es = es
with_all_ended (r ∷ rs) es =
    with_all_ended rs (insert_entry nat_cmp es r.id (standing.Ended r.kind r.last))

-- they were given out, of so many
abbrev pub are_minted : ℕ → List (ℕ × Standing) → Bool
are_minted given es = list_all (λ e. nat_lt 0 e.0 && nat_le e.0 given) es

-- these, which have ended, are live again
abbrev pub revived : List Ended → List (ℕ × Standing) → List (ℕ × Standing)
revived [] es = es
revived (r ∷ rs) es =
    set_value (is_at (nat_cmp r.id)) (revived rs es) (standing.Live r.kind)

-- the last id that was given out names nothing, where it was given out since the table last stood
abbrev pub without_fresh : Bool → ℕ → List (ℕ × Standing) → List (ℕ × Standing)
without_fresh false given es = es
without_fresh true given es = remove_entry (is_at (nat_cmp given)) es

-- as the table stands, of what it is ahead: so many of the last that ended did so since
abbrev pub stood : Bool → ℕ → ℕ → List (ℕ × Standing) → List Ended → Ids
stood fresh more given es ended = record {
  next = if fresh then given else given + 1;
  live = live_of (revived (drop (length ended - more) ended) (without_fresh fresh given es));
  ended = take (length ended - more) ended;
}

-- as it is ahead
abbrev pub ahead_of : ℕ → List (ℕ × Standing) → List Ended → Ids
ahead_of given es ended =
    record { next = given + 1; live = live_of es; ended = retained ended }

-- each that ended stands so, and nothing else does
pub record IsTied (es : List (ℕ × Standing)) (ended : List Ended) : Type 0 where
  pub rising : rising (λ e. e.0) es ≡ true
  pub tied : (id : ℕ) → row_of (λ e. e.id) id ended ≡ ended_by id (standing_at id es)
  pub once : are_distinct (λ e. e.id) ended ≡ true

-- in that much room each id here will have ended, and so many more
abbrev pub HasRoom : ℕ → List (ℕ × Standing) → ℕ → Type 0
HasRoom more es room = length es + more ≤ room

-- A whole table. So many of the last that ended did so since it last stood, and before them were no more than are kept.
pub record IsTable (fresh : Bool) (more given : ℕ) (es : List (ℕ × Standing))
    (ended : List Ended) : Type 0 where
  pub standings : IsTied es ended
  pub minted : are_minted given es ≡ true
  pub since : more ≤ length ended
  pub few : length ended ≤ 4096 + more
  pub last : fresh ≡ true →
      (0 < given) × (row_of (λ e. e.id) given (take (length ended - more) ended) ≡ None)
