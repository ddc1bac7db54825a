-- How deep the parts of a value are.
use Rattle.std.proofs.Common.{ℕ, suc, ◌≤◌, List, [], ◌∷◌, All, map, Some, None, arith}
use Rattle.std.proofs.lemmas.List.Elements.{All-nil, All-cons, All-head, All-tail}
use Rattle.drb_tree.specs.declared.Tree.{Tree}
use Rattle.drb_tree.specs.declared.Tree.TheViews.{roll-Tree}
use Rattle.drb_tree.specs.declared.Tree.TheOpen.{Tree-F}
use Rattle.drb_tree.specs.Sizes.{depth, most, most_pairs, fields_depth}
use Rattle.drb_tree.proofs.Everywhere.{Parts, BothHave, FieldHas}
use Rattle.drb_tree.proofs.Sizes.{depth_roll, depth_list, depth_hash, depth_object, depth_struct, depth_dumped, depth_wrapped}

-- at most so deep
abbrev pub NotDeeper : ℕ → Tree → Type 0
NotDeeper n t = depth t ≤ n

items_within : (n : ℕ) (ts : List Tree) → most (map depth ts) ≤ n → All (NotDeeper n) ts
items_within n [] h = All-nil (NotDeeper n)
items_within n (t ∷ ts) h = All-cons (NotDeeper n) t ts (omega (arith, h)) (items_within n ts (omega (arith, h)))

pairs_within : (n : ℕ) (ps : List (Tree × Tree)) → most_pairs (map (λ p. (depth p.0, depth p.1)) ps) ≤ n → All (BothHave (NotDeeper n)) ps
pairs_within n [] h = All-nil (BothHave (NotDeeper n))
pairs_within n (p ∷ ps) h = All-cons (BothHave (NotDeeper n)) p ps (omega (arith, h), omega (arith, h)) (pairs_within n ps (omega (arith, h)))

fields_within : (n : ℕ) (fs : List (List ℕ × Tree)) → fields_depth fs ≤ n → All (FieldHas (NotDeeper n)) fs
fields_within n [] h = All-nil (FieldHas (NotDeeper n))
fields_within n (f ∷ fs) h = All-cons (FieldHas (NotDeeper n)) f fs (omega (arith, h)) (fields_within n fs (omega (arith, h)))

-- the parts of a value are less deep than it
pub parts_within : (n : ℕ) (l : Tree-F Tree) → depth (roll-Tree l) ≤ suc n → Parts (NotDeeper n) l
parts_within n (Tree-F.List ts) h = items_within n ts (omega (arith, h, depth_list ts))
parts_within n (Tree-F.Hash ps None) h = (pairs_within n ps (omega (arith, h, depth_hash ps None)), tt)
parts_within n (Tree-F.Hash ps (Some d)) h = (pairs_within n ps (omega (arith, h, depth_hash ps (Some d))), omega (arith, h, depth_hash ps (Some d)))
parts_within n (Tree-F.Object c fs) h = fields_within n fs (omega (arith, h, depth_object c fs))
parts_within n (Tree-F.Struct c fs) h = fields_within n fs (omega (arith, h, depth_struct c fs))
parts_within n (Tree-F.Dumped c bs fs) h = fields_within n fs (omega (arith, h, depth_dumped c bs fs))
parts_within n (Tree-F.Wrapped c t) h = omega (arith, h, depth_wrapped c t)
parts_within n _ h = tt

most_within : (n : ℕ) (ts : List Tree) → All (NotDeeper n) ts → most (map depth ts) ≤ n
most_within n [] h = omega arith
most_within n (t ∷ ts) h = omega (arith, All-head (NotDeeper n) t ts h, most_within n ts (All-tail (NotDeeper n) t ts h))

most_pairs_within : (n : ℕ) (ps : List (Tree × Tree)) → All (BothHave (NotDeeper n)) ps → most_pairs (map (λ p. (depth p.0, depth p.1)) ps) ≤ n
most_pairs_within n [] h = omega arith
most_pairs_within n (p ∷ ps) h = let e = All-head (BothHave (NotDeeper n)) p ps h in omega (arith, e.0, e.1, most_pairs_within n ps (All-tail (BothHave (NotDeeper n)) p ps h))

most_fields_within : (n : ℕ) (fs : List (List ℕ × Tree)) → All (FieldHas (NotDeeper n)) fs → fields_depth fs ≤ n
most_fields_within n [] h = omega arith
most_fields_within n (f ∷ fs) h = omega (arith, All-head (FieldHas (NotDeeper n)) f fs h, most_fields_within n fs (All-tail (FieldHas (NotDeeper n)) f fs h))

-- a value is one deeper than its parts
pub within_parts : (n : ℕ) (l : Tree-F Tree) → Parts (NotDeeper n) l → depth (roll-Tree l) ≤ suc n
within_parts n (Tree-F.List ts) h = omega (arith, most_within n ts h, depth_list ts)
within_parts n (Tree-F.Hash ps None) h = omega (arith, most_pairs_within n ps h.0, depth_hash ps None)
within_parts n (Tree-F.Hash ps (Some d)) h = omega (arith, most_pairs_within n ps h.0, h.1, depth_hash ps (Some d))
within_parts n (Tree-F.Object c fs) h = omega (arith, most_fields_within n fs h, depth_object c fs)
within_parts n (Tree-F.Struct c fs) h = omega (arith, most_fields_within n fs h, depth_struct c fs)
within_parts n (Tree-F.Dumped c bs fs) h = omega (arith, most_fields_within n fs h, depth_dumped c bs fs)
within_parts n (Tree-F.Wrapped c t) h = omega (arith, h, depth_wrapped c t)
within_parts n Tree-F.Nil h = omega (arith, depth_roll Tree-F.Nil)
within_parts n (Tree-F.Bool b) h = omega (arith, depth_roll (Tree-F.Bool b))
within_parts n (Tree-F.Int i) h = omega (arith, depth_roll (Tree-F.Int i))
within_parts n (Tree-F.Sym s) h = omega (arith, depth_roll (Tree-F.Sym s))
within_parts n (Tree-F.Text t) h = omega (arith, depth_roll (Tree-F.Text t))
within_parts n (Tree-F.Class c) h = omega (arith, depth_roll (Tree-F.Class c))
within_parts n (Tree-F.Module c) h = omega (arith, depth_roll (Tree-F.Module c))
within_parts n (Tree-F.Remote r) h = omega (arith, depth_roll (Tree-F.Remote r))
