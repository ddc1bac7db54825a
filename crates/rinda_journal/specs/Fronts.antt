-- What a step of reading a turn at the front of bytes says.
use Rattle.std.specs.Prelude.{ℕ, ◌≡◌, List, ◌++◌, length, Some, None, Result, Ok, Err, ◌⊎◌}
use Rattle.std.specs.Borrow.{Bor}
use Rattle.drb_tree.specs.declared.Tree.{Tree}
use Rattle.drb_tree.specs.declared.Tree.TheViews.{out-Tree}
use Rattle.rinda_rules.specs.declared.turn.Turn.{Turn}
use Rattle.rinda_journal.specs.declared.error.ReadTurnError.{ReadTurnError}
use Rattle.rinda_journal.specs.declared.error.ReadTurnError.TheVariants.{NotATurn, Memory}
use Rattle.rinda_journal.specs.declared.field.Field.{Field}
use Rattle.rinda_journal.specs.Streams.{packet_then}
use Rattle.rinda_journal.specs.Reading.{fields_at, turn_in}
use Rattle.rinda_journal.specs.Texts.{turn_text, HasText, TurnKept}

-- the head stands at the front, and these bytes follow it; or no turn stands there
abbrev pub HeadIs : List ℕ → Result (List Field × Bor (List ℕ)) ReadTurnError → Type 0
HeadIs bytes (Ok r) =
    (v : Tree) × (packet_then bytes ≡ Some (v, r.1.now)) × (fields_at (out-Tree v) ≡ Some r.0)
HeadIs bytes (Err NotATurn) = turn_in bytes ≡ None
HeadIs bytes (Err Memory) = Unit {0}

-- the bytes begin with the text of the turn
abbrev pub Begins : Turn → List ℕ → Type 0
Begins t bytes = (rest : List ℕ) × (bytes ≡ turn_text t ++ rest)

-- the bytes begin with the text of the turn, which is so long; or they don't, or it has none
abbrev pub Confirms : Turn → List ℕ → Result ℕ ReadTurnError → Type 0
Confirms t bytes (Ok n) = HasText t × TurnKept t × (n ≡ length (turn_text t)) × Begins t bytes
Confirms t bytes (Err NotATurn) = HasText t → Begins t bytes → ⊥
Confirms t bytes (Err Memory) = Unit {0}

-- the answer is this, or want of memory
abbrev pub IsOrLacksMemory : (wanted answer : Result (Turn × ℕ) ReadTurnError) → Type 0
IsOrLacksMemory wanted answer = (answer ≡ wanted) ⊎ (answer ≡ Err Memory)
