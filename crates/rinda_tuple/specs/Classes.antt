-- The table of classes: which values the name of a class or module suits. docs/SPACE.md, Matching.
use Rattle.std.specs.Prelude.{ℕ, Bool, true, false, not, ◌||◌, List, [], ◌∷◌, bytes_eq, codes, if◌then◌else◌}
use Rattle.drb_tree.specs.declared.Tree.{Tree}
use Rattle.drb_tree.specs.declared.Tree.TheOpen.{Tree-F}

-- one test for each kind of value
abbrev pub is_nil : Tree-F Tree → Bool
is_nil Tree-F.Nil = true
is_nil _ = false

abbrev pub is_true : Tree-F Tree → Bool
is_true (Tree-F.Bool b) = b
is_true _ = false

abbrev pub is_false : Tree-F Tree → Bool
is_false (Tree-F.Bool b) = not b
is_false _ = false

abbrev pub is_int : Tree-F Tree → Bool
is_int (Tree-F.Int i) = true
is_int _ = false

abbrev pub is_sym : Tree-F Tree → Bool
is_sym (Tree-F.Sym name) = true
is_sym _ = false

abbrev pub is_text : Tree-F Tree → Bool
is_text (Tree-F.Text text) = true
is_text _ = false

abbrev pub is_list : Tree-F Tree → Bool
is_list (Tree-F.List items) = true
is_list _ = false

abbrev pub is_hash : Tree-F Tree → Bool
is_hash (Tree-F.Hash pairs default) = true
is_hash _ = false

abbrev pub is_class : Tree-F Tree → Bool
is_class (Tree-F.Class name) = true
is_class _ = false

abbrev pub is_module : Tree-F Tree → Bool
is_module (Tree-F.Module name) = true
is_module _ = false

abbrev pub is_struct : Tree-F Tree → Bool
is_struct (Tree-F.Struct class fields) = true
is_struct _ = false

abbrev pub is_remote : Tree-F Tree → Bool
is_remote (Tree-F.Remote remote) = true
is_remote _ = false

-- an Object of exactly that class
abbrev pub is_object_of : List ℕ → Tree-F Tree → Bool
is_object_of name (Tree-F.Object class fields) = bytes_eq class name
is_object_of name _ = false

-- a Struct of exactly that class
abbrev pub is_struct_of : List ℕ → Tree-F Tree → Bool
is_struct_of name (Tree-F.Struct class fields) = bytes_eq class name
is_struct_of name _ = false

-- an Object, Struct, Dumped or Wrapped of exactly that class
abbrev pub is_of : List ℕ → Tree-F Tree → Bool
is_of name (Tree-F.Object class fields) = bytes_eq class name
is_of name (Tree-F.Struct class fields) = bytes_eq class name
is_of name (Tree-F.Dumped class bytes vars) = bytes_eq class name
is_of name (Tree-F.Wrapped class inner) = bytes_eq class name
is_of name _ = false

-- the lines of the table, each a name and the values that it suits
abbrev pub table : List (List ℕ × (Tree-F Tree → Bool))
table =
    (codes "Object", λ x. true)
    ∷ (codes "BasicObject", λ x. true)
    ∷ (codes "Kernel", λ x. true)
    ∷ (codes "NilClass", is_nil)
    ∷ (codes "TrueClass", is_true)
    ∷ (codes "FalseClass", is_false)
    ∷ (codes "Integer", is_int)
    ∷ (codes "Numeric", is_int)
    ∷ (codes "Symbol", is_sym)
    ∷ (codes "String", is_text)
    ∷ (codes "Array", is_list)
    ∷ (codes "Hash", is_hash)
    ∷ (codes "Class", is_class)
    ∷ (codes "Module", λ x. is_class x || is_module x)
    ∷ (codes "Struct", is_struct)
    ∷ (codes "DRb::DRbObject", is_remote)
    ∷ (codes "Comparable", λ x. is_int x || is_text x || is_sym x)
    ∷ (
      codes "Enumerable",
      λ x. is_list x || is_hash x || is_struct x
          || is_object_of (codes "Range") x,
    )
    ∷ []

-- the values that the name suits by these lines, and by the last line where none of them has the name
abbrev pub suits_by : List (List ℕ × (Tree-F Tree → Bool)) → List ℕ → Tree-F Tree → Bool
suits_by [] name x = is_of name x
suits_by (line ∷ lines) name x = if bytes_eq line.0 name then line.1 x else suits_by lines name x

-- the name of a class or module suits the value: by the table, and a Struct also suits its own class
abbrev pub class_suits : List ℕ → Tree-F Tree → Bool
class_suits name x = suits_by table name x || is_struct_of name x
