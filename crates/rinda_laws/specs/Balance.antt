-- What comes in and leaves.
use Rattle.std.specs.Prelude.{◌≡◌, ℕ, ◌<◌, ◌≤◌, None, ◌+◌, Bool, true, false, ◌&&◌, ◌==◌, List, [], ◌∷◌, ◌++◌, if◌then◌else◌}
use Rattle.rinda_rules.specs.declared.plain.Happening.{Happening}
use Rattle.rinda_rules.specs.declared.plain.Happening.TheVariants as happening
use Rattle.rinda_rules.specs.declared.plain.Entry.{Entry}
use Rattle.rinda_rules.specs.declared.plain.Raised.{Raised}
use Rattle.rinda_rules.specs.declared.turn.Turn.{Turn}
use Rattle.rinda_rules.specs.Space.{Plain, tuple_at}
use Rattle.rinda_rules.specs.Settled.{Settled}
use Rattle.rinda_rules.specs.Legal.{plain_from, LegalFrom}
use Rattle.rinda_laws.specs.Starting.{IsStart, raised_since}

abbrev pub is_write : Happening → Bool
is_write happening.Write = true
is_write happening.Take = false
is_write happening.Delete = false

abbrev pub is_take : Happening → Bool
is_take happening.Write = false
is_take happening.Take = true
is_take happening.Delete = false

abbrev pub is_delete : Happening → Bool
is_delete happening.Write = false
is_delete happening.Take = false
is_delete happening.Delete = true

-- how many pass a test
abbrev pub how_many : {X : Type 0} → (X → Bool) → List X → ℕ
how_many test [] = 0
how_many test (x ∷ xs) = (if test x then 1 else 0) + how_many test xs

-- how often the tuple with that id was written, taken and deleted, and how often it is there

abbrev pub writes : ℕ → List Raised → ℕ
writes id events = how_many (λ e. is_write e.what && e.id == id) events

abbrev pub takes : ℕ → List Raised → ℕ
takes id events = how_many (λ e. is_take e.what && e.id == id) events

abbrev pub deletes : ℕ → List Raised → ℕ
deletes id events = how_many (λ e. is_delete e.what && e.id == id) events

abbrev pub there : ℕ → List Entry → ℕ
there id tuples = how_many (λ t. t.id == id) tuples

-- Of the events raised since the start: each tuple that was there or was written is there, or left with one take or
-- delete.
pub record Balanced (start : Plain) (id : ℕ) (s : Plain) : Type 0 where
  pub balance :
      there id start.tuples + writes id (raised_since start s)
      ≡ there id s.tuples + (takes id (raised_since start s) + deletes id (raised_since start s))
  pub once : there id start.tuples + writes id (raised_since start s) ≤ 1

-- Each tuple comes once, and leaves at most once, with one take or delete.
abbrev pub LeavesOnce : Type 0
LeavesOnce = (start : Plain) (h : List Turn) (id : ℕ) →
    IsStart start → LegalFrom start h →
    Balanced start id (plain_from start h)
    × (takes id (raised_since start (plain_from start h)) + deletes id
    (raised_since start (plain_from start h)) ≤ 1)

-- An id that was minted and names no tuple never names one again.
abbrev pub GoneStays : Type 0
GoneStays = (start : Plain) (before later : List Turn) (id : ℕ) →
    IsStart start → LegalFrom start (before ++ later) →
    id < (plain_from start before).next → tuple_at (plain_from start before) id ≡ None →
    tuple_at (plain_from start (before ++ later)) id ≡ None

-- After each turn nobody waits beside a match, and nothing is due.
abbrev pub NobodyWaits : Type 0
NobodyWaits = (start : Plain) (before later : List Turn) →
    IsStart start → LegalFrom start (before ++ later) → Settled (plain_from start before)
