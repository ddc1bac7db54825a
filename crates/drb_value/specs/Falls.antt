use Rattle.std.proofs.Common.{ℕ, ◌≤◌, ◌+◌, ◌*◌, List, [], ◌∷◌, map, Some, None, Option, arith, max}
use Rattle.drb_tree.specs.declared.Tree.{Tree}
use Rattle.drb_tree.specs.Sizes as W
use Rattle.drb_tree.proofs.Sizes as L
use Rattle.drb_value.specs.declared.Node.{Node}
use Rattle.drb_value.specs.declared.Node.TheVariants as N
use Rattle.drb_value.specs.declared.Pairs.TheInside as P
use Rattle.drb_value.specs.declared.FieldList.TheInside as F
use Rattle.drb_value.specs.declared.Dumped.TheInside as D
use Rattle.drb_value.specs.declared.Dumped.TheDeep.{deep-Node, deep-Pairs, deep-FieldList, deep-Dumped}
use Rattle.drb_value.specs.declared.Dumped.TheShapes.{weighed-FieldList-list-at-2, weighed-Pairs-pairs-at-2}
use Rattle.drb_value.specs.View.{view_of}
use denote.Param.Weighed.{most}

pairs_falls : (ts : List (Tree × Tree)) →
    most (weighed-Pairs-pairs-at-2.weight Tree (λ y. 3 * W.depth y + 1)) ts ≤ 3 * W.most_pairs
    (map (λ p. (W.depth p.0, W.depth p.1)) ts) + 1
pairs_falls [] = omega arith
pairs_falls (t ∷ ts) = omega (arith, pairs_falls ts)

fields_falls : (ts : List (List ℕ × Tree)) →
    most (weighed-FieldList-list-at-2.weight Tree (λ y. 3 * W.depth y + 1)) ts ≤ 3 * W.fields_depth
    ts + 1
fields_falls [] = omega arith
fields_falls (t ∷ ts) = omega (arith, fields_falls ts)

each_falls : (ps : List (Tree × Tree)) (d : Option Tree) →
    deep-Pairs (record { pairs = ps; default = d }) ≤ 3 * W.pairs_depth (ps, d) + 1
each_falls ps None = omega (arith, pairs_falls ps)
each_falls ps (Some d) = omega (arith, pairs_falls ps)

pub pairs_fall : (a : P.Inside) → deep-Pairs a ≤ 3 * W.pairs_depth (a.pairs, a.default) + 1
pairs_fall a = each_falls a.pairs a.default

pub fields_fall : (a : F.Inside) → deep-FieldList a ≤ 3 * W.fields_depth a.list + 1
fields_fall a = omega (arith, fields_falls a.list)

pub dumped_falls : (a : D.Inside) → deep-Dumped a ≤ 3 * W.fields_depth a.vars + 2
dumped_falls a = omega (arith, fields_falls a.vars)

list_falls : (ts : List Tree) → most (λ t. 3 * W.depth t + 1) ts ≤ 3 * W.most (map W.depth ts) + 1
list_falls [] = omega arith
list_falls (t ∷ ts) = omega (arith, list_falls ts)

pub falls : (n : Node) → max (deep-Node n) 0 ≤ 3 * W.depth (view_of n)
falls (N.List vs) = omega (arith, list_falls vs, L.depth_list vs)
falls (N.Hash p) = omega (arith, L.depth_hash p.0 p.1)
falls (N.Object f) = omega (arith, L.depth_object f.class f.fields)
falls (N.Struct f) = omega (arith, L.depth_struct f.class f.fields)
falls (N.Dumped d) = omega (arith, L.depth_dumped d.0 d.1 d.2)
falls (N.Wrapped w) = omega (arith, L.depth_wrapped w.class w.inner)
falls _ = omega arith
