-- Dumps: docs/MARSHAL.md, Dumps and Remote objects.
use Rattle.std.specs.Prelude.{ℕ, List, Option, Some, None, ◌==◌, nat_le}
use Rattle.drb_tree.specs.declared.Remote.{Remote}
use Rattle.drb_tree.specs.declared.Tree.{Tree}
use Rattle.drb_tree.specs.declared.Tree.TheViews.{out-Tree}
use Rattle.drb_tree.specs.Kept.{max_depth}
use Rattle.marshal_grammar.specs.declared.refusal.Why.{Why}
use Rattle.marshal_grammar.specs.declared.refusal.Why.TheVariants as why
use Rattle.marshal_grammar.specs.Contexts.{Context, opening}
use Rattle.marshal_grammar.specs.Grammar.{Grammar, gives, refuses, must, byte, ◌>>=◌, ◌>>◌, Spells, Meets}
use Rattle.marshal_grammar.specs.Reading.{Read, read}
use Rattle.marshal_grammar.specs.Trees.{remote_of}
use Rattle.marshal_grammar.specs.Values.{value}

-- the byte 04 and a byte 00 to 08
abbrev pub version : Grammar (Unit {0})
version = do
  major ← byte
  must (major == 4) why.Version 0
  minor ← byte
  must (nat_le minor 8) why.Version 1

-- the version bytes and one value
unfoldable pub dump_with : Grammar Remote → Grammar Tree
dump_with reference = do
  version
  value reference max_depth

-- the remote object that was found; without one the bytes are no reference
abbrev pub some_remote : Option Remote → Grammar Remote
some_remote None = refuses why.BadReference 0
some_remote (Some r) = gives r

-- the inner dump of a remote object: a list of two, its uri and its id; no remote object stands in it
unfoldable pub reference : Grammar Remote
reference = do
  v ← dump_with (refuses why.BadReference 0)
  some_remote (remote_of (out-Tree v))

-- a dump
unfoldable pub dump : Grammar Tree
dump = dump_with reference

-- these bytes are a dump of the value
abbrev pub Dump : List ℕ → Tree → Type 0
Dump bs v = (d : Context) × Spells dump opening bs v d

-- these bytes are refused for this reason at this place: no front of them is a dump
abbrev pub Refuses : List ℕ → Why → ℕ → Type 0
Refuses bs w at = Meets dump opening bs (record { why = w; at = at })

-- what reading these bytes from the front gives
abbrev pub dump_of : List ℕ → Read Tree
dump_of bs = read dump opening bs
