-- The laws of the texts of turns, in other words than their definition: docs/JOURNAL.md.
use Rattle.std.specs.Prelude.{ℕ, ◌≡◌, ◌<◌, ◌≤◌, List, ◌++◌, length}
use Rattle.drb_tree.specs.declared.Tree.{Tree}
use Rattle.drb_tree.specs.Kept.{Fits}
use Rattle.marshal_grammar.specs.Spelled.{spelled}
use Rattle.marshal_write.specs.Limits.{max_dump}
use Rattle.rinda_rules.specs.declared.turn.Turn.{Turn}
use Rattle.rinda_journal.specs.Texts.{HasText, TurnKept, TextAt, turn_text}

-- No text is a front of another turn's: where bytes begin with two texts, both are of one turn, and the same bytes follow.
abbrev pub OneTurn : Type 0
OneTurn = (t u : Turn) (x y : List ℕ) → HasText t → TurnKept t → HasText u → TurnKept u
    → turn_text t ++ x ≡ turn_text u ++ y → (t ≡ u) × (x ≡ y)

-- the text of one turn at most begins at a place
abbrev pub OnePlace : Type 0
OnePlace = (bytes : List ℕ) (at n m : ℕ) (t u : Turn) → TextAt bytes at t n → TextAt bytes at u m
    → (t ≡ u) × (n ≡ m)

-- a text has some bytes
abbrev pub SomeBytes : Type 0
SomeBytes = (t : Turn) → 0 < length (turn_text t)

-- the spelling of a value that fits is no longer than a dump may be
abbrev pub ShortEnough : Type 0
ShortEnough = (v : Tree) → Fits v → length (spelled v) ≤ max_dump
