-- An array on its way to a block: docs/WIRE.md, Arrays for blocks.
use Rattle.std.specs.Prelude.{ℕ, ◌≡◌, ◌<◌, ◌⊎◌, List, [], length, slice_index, codes, Result, Err}
use Rattle.drb_tree.specs.declared.Tree.{Tree}
use Rattle.drb_tree.specs.Trees.{list_tree, dumped_tree}
use Rattle.marshal_grammar.specs.declared.refusal.Why.{Why}
use Rattle.marshal_grammar.specs.declared.refusal.Why.TheVariants as why
use Rattle.marshal_grammar.specs.Dumps.{Refuses}
use Rattle.marshal_grammar.specs.Spelled.{spelled}
use Rattle.marshal_read.specs.declared.error.ReadError.{ReadError}
use Rattle.marshal_read.specs.declared.error.ReadError.TheVariants.{Refused, Memory}
use Rattle.marshal_read.specs.Dumps.{DumpOf}
use Rattle.marshal_write.specs.Limits.{max_dump}

-- the class that an array is sent in to a block
abbrev pub array_class : List ℕ
array_class = codes "DRb::DRbArray"

-- an array
abbrev pub IsList : Tree → Type 0
IsList v = (items : List Tree) × (v ≡ list_tree items)

-- what a block is sent for the value v: an array's dump, held by that class without variables, and every other value
-- as it is
abbrev pub ForBlock : Tree → Tree → Type 0
ForBlock v w = (IsList v × (w ≡ dumped_tree array_class (spelled v) []))
    ⊎ ((IsList v → ⊥) × (w ≡ v))

-- an array whose dump is longer than a dump may be
abbrev pub IsTooLong : Tree → Type 0
IsTooLong v = IsList v × (max_dump < length (spelled v))

-- a value of that class, with any variables, holds these bytes
abbrev pub Holds : Tree → List ℕ → Type 0
Holds v bytes = (vars : List (List ℕ × Tree)) × (v ≡ dumped_tree array_class bytes vars)

-- bytes that begin with an array's dump
abbrev pub DumpsList : List ℕ → List Tree → Type 0
DumpsList bytes items = (n : ℕ) × DumpOf bytes (list_tree items) n

-- the array that these bytes begin with the dump of
abbrev pub IsListIn : List ℕ → Tree → Type 0
IsListIn bytes w = (items : List Tree) × (w ≡ list_tree items) × DumpsList bytes items

-- bytes that begin with the dump of something else
abbrev pub DumpsOther : List ℕ → Type 0
DumpsOther bytes = (v : Tree) × (n : ℕ) × DumpOf bytes v n × (IsList v → ⊥)

-- Why such bytes are refused: as no dump is; or, where they begin with the dump of something else, for its type byte,
-- which stands at 2.
abbrev pub RefusesArray : List ℕ → Why → ℕ → Type 0
RefusesArray bytes w at = Refuses bytes w at
    ⊎ (DumpsOther bytes × (w ≡ why.BadType (slice_index bytes 2)) × (at ≡ 2))

-- refused for that reason at that place
abbrev pub refused_as : Why → ℕ → Result Tree ReadError
refused_as w at = Err (Refused (record { why = w; at = at }))

-- this is the answer, or there was no memory
abbrev pub IsOrLacksMemory : Result Tree ReadError → Result Tree ReadError → Type 0
IsOrLacksMemory answer result = (result ≡ answer) ⊎ (result ≡ Err Memory)
