-- What every value keeps, and which values can be sent: docs/MARSHAL.md, Values.
use Rattle.std.specs.Prelude.{ℕ, ◌≡◌, ◌≤◌, ◌<◌, ◌^◌, ℤ, pos, ◌-ℤ◌, ◌≤ℤ◌, ◌<ℤ◌, Bool, true, false, not, ◌&&◌, ◌||◌, IsTrue, List, [], ◌∷◌, ◌++◌, length, All, IsUtf8, bytes_eq, codes}
use Rattle.drb_tree.specs.declared.RefId.{RefId}
use Rattle.drb_tree.specs.declared.RefId.TheVariants as R
use Rattle.drb_tree.specs.declared.Remote.{Remote}
use Rattle.drb_tree.specs.declared.Tree.{Tree}
use Rattle.drb_tree.specs.declared.Tree.TheOpen.{Tree-F}
use Rattle.drb_tree.specs.declared.Tree.TheFolds.{every-Tree}
use Rattle.drb_tree.specs.Trees.{nil_tree, int_tree, text_tree, list_tree}
use Rattle.drb_tree.specs.Same.{same, all_ascii}
use Rattle.drb_tree.specs.Sizes.{depth, nodes}

-- some key is the same as k
abbrev pub has_key : Tree → List (Tree × Tree) → Bool
has_key k [] = false
has_key k (p ∷ ps) = same p.0 k || has_key k ps

-- no key is the same as an earlier one, or as one of those before
abbrev pub keys_distinct_after : List (Tree × Tree) → List (Tree × Tree) → Bool
keys_distinct_after before [] = true
keys_distinct_after before (p ∷ ps) =
    not (has_key p.0 before) && keys_distinct_after (before ++ (p ∷ [])) ps

-- no key is the same as an earlier one
abbrev pub keys_distinct : List (Tree × Tree) → Bool
keys_distinct ps = keys_distinct_after [] ps

-- some field has that name
abbrev pub has_name : List ℕ → List (List ℕ × Tree) → Bool
has_name n [] = false
has_name n (f ∷ fs) = bytes_eq f.0 n || has_name n fs

-- no name stands twice
abbrev pub names_distinct : List (List ℕ × Tree) → Bool
names_distinct [] = true
names_distinct (f ∷ fs) = not (has_name f.0 fs) && names_distinct fs

-- `DRb::DRbObject`, the class of which no Dumped is: such a dump is a Remote
abbrev pub remote_class : List ℕ
remote_class = codes "DRb::DRbObject"

-- each name is UTF-8, and none stands twice
abbrev pub FieldsKept : List (List ℕ × Tree) → Type 0
FieldsKept fs = All (λ f. IsUtf8 f.0) fs × IsTrue (names_distinct fs)

-- what one value keeps, not looking into its parts
abbrev pub Keeps : Tree-F Tree → Type 0
Keeps (Tree-F.Sym s) = IsUtf8 s
Keeps (Tree-F.Hash ps d) = IsTrue (keys_distinct ps)
Keeps (Tree-F.Class n) = IsUtf8 n
Keeps (Tree-F.Module n) = IsUtf8 n
Keeps (Tree-F.Object c fs) = IsUtf8 c × FieldsKept fs
Keeps (Tree-F.Struct c fs) = IsUtf8 c × FieldsKept fs
Keeps (Tree-F.Dumped c bs fs) = IsUtf8 c × (c ≡ remote_class → ⊥) × FieldsKept fs
Keeps (Tree-F.Wrapped c t) = IsUtf8 c
Keeps _ = Unit {0}

-- the value and every part of it, all the way down, keep what they have to
abbrev pub WellKept : Tree → Type 0
WellKept = every-Tree Keeps

-- the greatest depth, the most nodes, and the most pairs, fields or variables of one value
abbrev pub max_depth : ℕ
max_depth = 128

abbrev pub max_nodes : ℕ
max_nodes = 262144

abbrev pub max_pairs : ℕ
max_pairs = 4096

-- not too deep, and not too many nodes
abbrev pub Within : Tree → Type 0
Within t = (depth t ≤ max_depth) × (nodes t ≤ max_nodes)

-- a remote object's id as a value: nil for the front
abbrev pub id_tree : RefId → Tree
id_tree R.Front = nil_tree
id_tree (R.Number i) = int_tree i
id_tree (R.Text t) = text_tree t

-- the list of uri and id, which is what a remote object dumps of itself
abbrev pub remote_list : Remote → Tree
remote_list r = list_tree (text_tree r.uri ∷ id_tree r.id ∷ [])

-- what one value has to be for a dump, not looking into its parts;
-- the list of a remote object has no part with pairs or a name
abbrev pub Small : Tree-F Tree → Type 0
Small (Tree-F.Hash ps d) = length ps ≤ max_pairs
Small (Tree-F.Class n) = IsTrue (all_ascii n)
Small (Tree-F.Module n) = IsTrue (all_ascii n)
Small (Tree-F.Object c fs) = length fs ≤ max_pairs
Small (Tree-F.Struct c fs) = length fs ≤ max_pairs
Small (Tree-F.Dumped c bs fs) = length fs ≤ max_pairs
Small (Tree-F.Remote r) = Within (remote_list r)
Small _ = Unit {0}

-- the value fits into a dump
abbrev pub Fits : Tree → Type 0
Fits t = Within t × every-Tree Small t

-- every byte is a byte
abbrev pub AreBytes : List ℕ → Type 0
AreBytes bs = All (λ b. b < 256) bs

-- the integer has 128 bits
abbrev pub IsI128 : ℤ → Type 0
IsI128 i = ((pos 0 -ℤ pos (2 ^ 127)) ≤ℤ i) × (i <ℤ pos (2 ^ 127))

-- the numbers of a remote object's id
abbrev pub IdInRange : RefId → Type 0
IdInRange R.Front = Unit {0}
IdInRange (R.Number i) = IsI128 i
IdInRange (R.Text t) = AreBytes t.bytes

-- the numbers of one value, not looking into its parts
abbrev pub InRange : Tree-F Tree → Type 0
InRange (Tree-F.Int i) = IsI128 i
InRange (Tree-F.Sym s) = AreBytes s
InRange (Tree-F.Text t) = AreBytes t.bytes
InRange (Tree-F.Class n) = AreBytes n
InRange (Tree-F.Module n) = AreBytes n
InRange (Tree-F.Object c fs) = AreBytes c × All (λ f. AreBytes f.0) fs
InRange (Tree-F.Struct c fs) = AreBytes c × All (λ f. AreBytes f.0) fs
InRange (Tree-F.Dumped c bs fs) = AreBytes c × AreBytes bs × All (λ f. AreBytes f.0) fs
InRange (Tree-F.Wrapped c t) = AreBytes c
InRange (Tree-F.Remote r) = AreBytes r.uri.bytes × IdInRange r.id
InRange _ = Unit {0}

-- the numbers in a value are those that its types can hold
abbrev pub Ranged : Tree → Type 0
Ranged = every-Tree InRange
