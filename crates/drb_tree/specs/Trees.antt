-- The forms of a value, by name: docs/MARSHAL.md, Values.
use Rattle.std.specs.Prelude.{ℕ, ℤ, Bool, List, Option}
use Rattle.drb_tree.specs.declared.Text.{Text}
use Rattle.drb_tree.specs.declared.Remote.{Remote}
use Rattle.drb_tree.specs.declared.Tree.{Tree}
use Rattle.drb_tree.specs.declared.Tree.TheViews.{roll-Tree}
use Rattle.drb_tree.specs.declared.Tree.TheOpen.{Tree-F}

-- nil
abbrev pub nil_tree : Tree
nil_tree = roll-Tree Tree-F.Nil

-- true or false
abbrev pub bool_tree : Bool → Tree
bool_tree b = roll-Tree (Tree-F.Bool b)

-- an integer
abbrev pub int_tree : ℤ → Tree
int_tree i = roll-Tree (Tree-F.Int i)

-- a symbol
abbrev pub sym_tree : List ℕ → Tree
sym_tree s = roll-Tree (Tree-F.Sym s)

-- a text
abbrev pub text_tree : Text → Tree
text_tree t = roll-Tree (Tree-F.Text t)

-- a list of values
abbrev pub list_tree : List Tree → Tree
list_tree ts = roll-Tree (Tree-F.List ts)

-- a hash, by its pairs and its default
abbrev pub hash_tree : List (Tree × Tree) → Option Tree → Tree
hash_tree ps d = roll-Tree (Tree-F.Hash ps d)

-- a class
abbrev pub class_tree : List ℕ → Tree
class_tree n = roll-Tree (Tree-F.Class n)

-- a module
abbrev pub module_tree : List ℕ → Tree
module_tree n = roll-Tree (Tree-F.Module n)

-- an object, by its class and its fields
abbrev pub object_tree : List ℕ → List (List ℕ × Tree) → Tree
object_tree c fs = roll-Tree (Tree-F.Object c fs)

-- a struct, by its class and its members
abbrev pub struct_tree : List ℕ → List (List ℕ × Tree) → Tree
struct_tree c fs = roll-Tree (Tree-F.Struct c fs)

-- a value that its class dumped as bytes, with variables
abbrev pub dumped_tree : List ℕ → List ℕ → List (List ℕ × Tree) → Tree
dumped_tree c bs vs = roll-Tree (Tree-F.Dumped c bs vs)

-- a value that its class dumped as another value
abbrev pub wrapped_tree : List ℕ → Tree → Tree
wrapped_tree c t = roll-Tree (Tree-F.Wrapped c t)

-- a remote object
abbrev pub remote_tree : Remote → Tree
remote_tree r = roll-Tree (Tree-F.Remote r)
