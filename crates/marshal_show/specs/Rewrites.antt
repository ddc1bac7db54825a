-- What a dump is written as again.
use Rattle.std.specs.Prelude.{ℕ, ◌≡◌, List}
use Rattle.drb_tree.specs.declared.Tree.{Tree}
use Rattle.marshal_grammar.specs.Spelled.{spelled}
use Rattle.marshal_read.specs.Dumps.{DumpOf}

-- the written bytes are the written spelling of a value,
-- and the bytes begin with a dump of that value
abbrev pub Rewrites : List ℕ → List ℕ → Type 0
Rewrites bs written = (v : Tree) × (n : ℕ) × DumpOf bs v n × (written ≡ spelled v)
