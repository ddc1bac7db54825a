-- What an answer of `read_dump` says.
use Rattle.std.specs.Prelude.{ℕ, ◌≤◌, List, take, length}
use Rattle.drb_tree.specs.declared.Tree.{Tree}
use Rattle.marshal_grammar.specs.Dumps.{Dump}

-- the first n bytes are a dump of the value
abbrev pub DumpOf : List ℕ → Tree → ℕ → Type 0
DumpOf bs v n = (n ≤ length bs) × Dump (take n bs) v
