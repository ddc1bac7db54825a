-- How deep the parts of a node reach: less deep than the node.
use Rattle.std.proofs.Common.{◌≡◌, ℕ, ◌+◌, ◌<◌, ◌≤◌, max, suc, zero, List, [], ◌∷◌, map, Option, Some, None, length, get_or, arith, ap}
use Rattle.drb_tree.specs.declared.Tree.{Tree}
use Rattle.drb_tree.specs.Sizes as W
use Rattle.drb_tree.proofs.Sizes as L
use Rattle.drb_value.specs.declared.Fields.{Fields}
use Rattle.drb_value.specs.declared.Wrapped.{Wrapped}
use Rattle.drb_value.specs.declared.Node.{Node}
use Rattle.drb_value.specs.declared.Node.TheVariants as N
use Rattle.drb_value.specs.View.{view_of}

-- one more than the deepest item
abbrev pub list_size : List Tree → ℕ
list_size [] = 0
list_size (t ∷ ts) = max (W.depth t + 1) (list_size ts)

-- one more than the deepest key or value
abbrev pub pairs_size : List (Tree × Tree) → ℕ
pairs_size [] = 0
pairs_size (p ∷ ps) = max (max (W.depth p.0 + 1) (W.depth p.1 + 1)) (pairs_size ps)

-- one more than the deepest field
abbrev pub fields_size : List (List ℕ × Tree) → ℕ
fields_size [] = 0
fields_size (f ∷ fs) = max (W.depth f.1 + 1) (fields_size fs)

-- one more than the default's depth
abbrev pub default_size : Option Tree → ℕ
default_size None = 0
default_size (Some t) = W.depth t + 1

-- how deep the fields of an object are, and the variables of a dumped value
abbrev pub object_depth : Fields → ℕ
object_depth f = W.fields_depth f.fields

abbrev pub vars_depth : List ℕ × List ℕ × List (List ℕ × Tree) → ℕ
vars_depth d = W.fields_depth d.2

list_most : (ts : List Tree) → list_size ts ≤ W.most (map W.depth ts) + 1
list_most [] = omega arith
list_most (t ∷ ts) = omega (arith, list_most ts)

pairs_most : (ts : List (Tree × Tree)) → pairs_size ts ≤ W.most_pairs (map (λ p. (W.depth p.0, W.depth p.1)) ts) + 1
pairs_most [] = omega arith
pairs_most (t ∷ ts) = omega (arith, pairs_most ts)

default_most : (ps : List (Tree × Tree)) (d : Option Tree) → default_size d ≤ W.pairs_depth (ps, d) + 1
default_most ps None = omega arith
default_most ps (Some d) = omega arith

pub list_in : (n : Node) (ts : List Tree) → n ≡ N.List ts → list_size ts ≤ W.depth (view_of n)
list_in n ts e = omega (arith, list_most ts, L.depth_list ts, ap (λ m. W.depth (view_of m)) e)

pub hash_in : (n : Node) (p : List (Tree × Tree) × Option Tree) → n ≡ N.Hash p → W.pairs_depth p + 1 ≤ W.depth (view_of n)
hash_in n p e = omega (arith, L.depth_hash p.0 p.1, ap (λ m. W.depth (view_of m)) e)

pub object_in : (n : Node) (f : Fields) → n ≡ N.Object f → W.fields_depth f.fields + 1 ≤ W.depth (view_of n)
object_in n f e = omega (arith, L.depth_object f.class f.fields, ap (λ m. W.depth (view_of m)) e)

pub struct_in : (n : Node) (f : Fields) → n ≡ N.Struct f → W.fields_depth f.fields + 1 ≤ W.depth (view_of n)
struct_in n f e = omega (arith, L.depth_struct f.class f.fields, ap (λ m. W.depth (view_of m)) e)

pub dumped_in : (n : Node) (d : List ℕ × List ℕ × List (List ℕ × Tree)) → n ≡ N.Dumped d → W.fields_depth d.2 + 1 ≤ W.depth (view_of n)
dumped_in n d e = omega (arith, L.depth_dumped d.0 d.1 d.2, ap (λ m. W.depth (view_of m)) e)

pub wrapped_in : (n : Node) (w : Wrapped) → n ≡ N.Wrapped w → W.depth w.inner + 1 ≤ W.depth (view_of n)
wrapped_in n w e = omega (arith, L.depth_wrapped w.class w.inner, ap (λ m. W.depth (view_of m)) e)

pub pairs_in : (p : List (Tree × Tree) × Option Tree) → pairs_size p.0 ≤ W.pairs_depth p + 1
pairs_in p = omega (arith, pairs_most p.0)

pub default_in : (p : List (Tree × Tree) × Option Tree) → default_size p.1 ≤ W.pairs_depth p + 1
default_in p = default_most p.0 p.1

pub fields_in : (fs : List (List ℕ × Tree)) → fields_size fs ≤ W.fields_depth fs + 1
fields_in [] = omega arith
fields_in (f ∷ fs) = omega (arith, fields_in fs)

pub item_in : (ts : List Tree) (i : ℕ) (t d : Tree) → i < length ts → t ≡ get_or ts i d → W.depth t + 1 ≤ list_size ts
item_in [] i t d h e = absurd (omega arith)
item_in (u ∷ ts) zero t d h e = omega (arith, ap W.depth e)
item_in (u ∷ ts) (suc i) t d h e = omega (arith, item_in ts i t d (omega arith) e)

pub pair_in : (ts : List (Tree × Tree)) (i : ℕ) (t d : Tree × Tree) → i < length ts → t ≡ get_or ts i d → max (W.depth t.0 + 1) (W.depth t.1 + 1) ≤ pairs_size ts
pair_in [] i t d h e = absurd (omega arith)
pair_in (u ∷ ts) zero t d h e = omega (arith, ap (λ (p : Tree × Tree). max (W.depth p.0) (W.depth p.1)) e)
pair_in (u ∷ ts) (suc i) t d h e = omega (arith, pair_in ts i t d (omega arith) e)

pub field_in : (ts : List (List ℕ × Tree)) (i : ℕ) (t d : List ℕ × Tree) → i < length ts → t ≡ get_or ts i d → W.depth t.1 + 1 ≤ fields_size ts
field_in [] i t d h e = absurd (omega arith)
field_in (u ∷ ts) zero t d h e = omega (arith, ap (λ (p : List ℕ × Tree). W.depth p.1) e)
field_in (u ∷ ts) (suc i) t d h e = omega (arith, field_in ts i t d (omega arith) e)
