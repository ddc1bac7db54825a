-- The text of a history: docs/JOURNAL.md, Histories.
use Rattle.std.specs.Prelude.{ℕ, ◌≡◌, ◌-◌, ◌<◌, ◌≤◌, List, [], ◌∷◌, ◌++◌, length, take, slice_get, Some, All, Result, Ok, Err}
use Rattle.rinda_rules.specs.declared.turn.Turn.{Turn}
use Rattle.rinda_journal.specs.declared.error.HistoryError.{HistoryError}
use Rattle.rinda_journal.specs.declared.error.HistoryError.TheVariants.{DoesNotFit, WriteFault, Memory}
use Rattle.rinda_journal.specs.Texts.{turn_text, HasText}

-- the texts of these turns, one behind the other
abbrev pub history_text : List Turn → List ℕ
history_text [] = []
history_text (t ∷ ts) = turn_text t ++ history_text ts

-- What a sink was given of a history. All of it; the texts before the turn of that number, which has none; a front of
-- it, up to a fault; or the texts of the first turns, up to a want of memory.
abbrev pub GivesHistory : List Turn → Result (Unit {0}) HistoryError → List ℕ → List ℕ → Type 0
GivesHistory ts (Ok u) given given' = given' ≡ given ++ history_text ts
GivesHistory ts (Err (DoesNotFit turn)) given given' =
    given' ≡ given ++ history_text (take (turn - 1) ts)
GivesHistory ts (Err WriteFault) given given' =
    (front rest : List ℕ) × (given' ≡ given ++ front) × (history_text ts ≡ front ++ rest)
GivesHistory ts (Err Memory) given given' = (n : ℕ) × (given' ≡ given ++ history_text (take n ts))

-- the turn of that number, from 1, is the first that has no text
pub record FirstWithout (ts : List Turn) (turn : ℕ) : Type 0 where
  pub some : 0 < turn
  pub within : turn ≤ length ts
  pub before : All HasText (take (turn - 1) ts)
  pub none : (t : Turn) → slice_get ts (turn - 1) ≡ Some t → HasText t → ⊥

-- what a sink was given of these bytes
abbrev pub GivesText : List ℕ → Result (Unit {0}) HistoryError → List ℕ → List ℕ → Type 0
GivesText text (Ok u) given given' = given' ≡ given ++ text
GivesText text (Err e) given given' = (n : ℕ) × (given' ≡ given ++ take n text)

-- what a sink was given of one turn
abbrev pub GivesTurn : Turn → Result (Unit {0}) HistoryError → List ℕ → List ℕ → Type 0
GivesTurn t (Ok u) given given' = given' ≡ given ++ turn_text t
GivesTurn t (Err WriteFault) given given' = (n : ℕ) × (given' ≡ given ++ take n (turn_text t))
GivesTurn t (Err _) given given' = given' ≡ given

-- the turn of this number is named as one that does not fit only where it has no text
abbrev pub Refuses : Turn → ℕ → Result (Unit {0}) HistoryError → Type 0
Refuses t number (Err (DoesNotFit turn)) = (turn ≡ number) × (HasText t → ⊥)
Refuses t number _ = Unit {0}
