-- What was written is read again: docs/MARSHAL.md, The written spelling.
use Rattle.std.specs.Prelude.{ℕ, ◌≡◌, List, ◌++◌, length, drop}
use Rattle.drb_tree.specs.declared.Tree.{Tree}
use Rattle.drb_tree.specs.Kept.{WellKept, Ranged, Fits}
use Rattle.marshal_grammar.specs.Dumps.{Dump}
use Rattle.marshal_grammar.specs.Spelled.{spelled}

-- of these bytes exactly the front b is a dump, and of the value v alone
pub record ReadAs (bs b : List ℕ) (v : Tree) : Type 0 where
  pub front : (rest : List ℕ) × (bs ≡ b ++ rest)
  pub dump : Dump b v
  pub only : (c rest : List ℕ) (w : Tree) → Dump c w → bs ≡ c ++ rest → (c ≡ b) × (w ≡ v)

-- The spelling of a value that fits, and that is well kept and ranged, was appended to the bytes
-- `old`. Whatever follows, what stands behind `old` is read as that value, up to the spelling's end.
abbrev pub ReadAgain : Type 0
ReadAgain = (v : Tree) (old new rest : List ℕ)
    → Fits v → WellKept v × Ranged v → new ≡ old ++ spelled v
    → ReadAs (drop (length old) (new ++ rest)) (spelled v) v
