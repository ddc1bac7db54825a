-- Lookups: what a datagram asks a ring to write. docs/RING.md, Lookups.
use Rattle.std.specs.Prelude.{ℕ, ℤ, ◌≡◌, List, [], ◌∷◌, Option, None, Some, Result, Ok, Err, codes}
use Rattle.drb_tree.specs.declared.Remote.{Remote}
use Rattle.drb_tree.specs.declared.Tree.{Tree}
use Rattle.drb_tree.specs.declared.Tree.TheViews.{out-Tree}
use Rattle.drb_tree.specs.declared.Tree.TheOpen.{Tree-F}
use Rattle.drb_tree.specs.Trees.{nil_tree, int_tree, sym_tree, list_tree, remote_tree}
use Rattle.marshal_grammar.specs.Dumps.{Refuses}
use Rattle.marshal_read.specs.Dumps.{DumpOf}
use Rattle.rinda_tuple.specs.declared.tuple.Tuple.TheVariants as tuple
use Rattle.rinda_ring.specs.declared.lookup.Lookup.{Lookup}
use Rattle.rinda_ring.specs.declared.lookup.RingRefusal.{RingRefusal}
use Rattle.rinda_ring.specs.declared.lookup.RingRefusal.TheVariants.{Marshal, NotAPair, NotATuple}
use Rattle.rinda_ring.specs.declared.lookup.RingError.{RingError}
use Rattle.rinda_ring.specs.declared.lookup.RingError.TheVariants.{Refused}

-- the items of a value that is an array
abbrev pub words_at : Tree-F Tree → Option (List Tree)
words_at (Tree-F.List words) = Some words
words_at _ = None

abbrev pub words_of : Tree → Option (List Tree)
words_of v = words_at (out-Tree v)

-- the first of these items, nil where there is none
abbrev pub first_of : List Tree → Tree
first_of [] = nil_tree
first_of (item ∷ items) = item

-- a tuple that is an array, with its life; what is no array is no tuple
abbrev pub with_life : Option (List Tree) → Tree → Result Lookup RingRefusal
with_life None life = Err NotATuple
with_life (Some words) life = Ok (record { tuple = tuple.List words; life = life })

-- An array is a tuple and a life, which may be missing. Further items are ignored.
abbrev pub pair_of : List Tree → Result Lookup RingRefusal
pair_of [] = Err NotAPair
pair_of (first ∷ items) = with_life (words_of first) (first_of items)

-- the lookup that a value is, or why it is none
abbrev pub lookup_at : Tree-F Tree → Result Lookup RingRefusal
lookup_at (Tree-F.List items) = pair_of items
lookup_at _ = Err NotAPair

abbrev pub lookup_of : Tree → Result Lookup RingRefusal
lookup_of v = lookup_at (out-Tree v)

-- the bytes begin with the dump of a value that is found to be this
pub record Dumps (bytes : List ℕ) (found : Result Lookup RingRefusal) : Type 0 where
  pub value : Tree
  pub size : ℕ
  pub dump : DumpOf bytes value size
  pub is : lookup_of value ≡ found

-- What the bytes of a datagram are found to be: they are refused as a dump; or they begin with the dump of a value that
-- is this lookup, or none for this reason.
abbrev pub Finds : List ℕ → Result Lookup RingRefusal → Type 0
Finds bytes (Err (Marshal refusal)) = Refuses bytes refusal.why refusal.at
Finds bytes found = Dumps bytes found

-- what is answered where this was found
abbrev pub said : Result Lookup RingRefusal → Result Lookup RingError
said (Ok lookup) = Ok lookup
said (Err why) = Err (Refused why)

-- What a client sends that looks for a ring: `[[:lookup_ring, block], seconds]`.

abbrev pub lookup_name : List ℕ
lookup_name = codes "lookup_ring"

abbrev pub words_tree : Remote → Tree
words_tree block = list_tree (sym_tree lookup_name ∷ remote_tree block ∷ [])

abbrev pub lookup_tree : Remote → ℤ → Tree
lookup_tree block seconds = list_tree (words_tree block ∷ int_tree seconds ∷ [])
