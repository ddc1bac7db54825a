-- What the forms of a value write, in other words.
use Rattle.std.proofs.Common.{◌≡◌, ℕ, suc, zero, ◌≤◌, List, [], ◌∷◌, ◌++◌, length, map, drop, append-nil, sym, ap, refl, ◌∙◌, arith, Option, None, Some, if◌then◌else◌}
use Rattle.drb_tree.specs.declared.Tree.{Tree}
use Rattle.drb_tree.specs.declared.Tree.TheFolds.{fold-roll-Tree, map-Tree}
use Rattle.drb_value.specs.declared.Node.{Node}
use Rattle.drb_value.specs.View.{layer, view_of}
use Rattle.marshal_grammar.specs.Spelled.{Writing, these, ◌then◌, long_from, string_bytes_of, symbol_bytes, each_pair, fields_bytes, hash_bytes, dumped_bytes, writing, writing_step}
use Rattle.marshal_write.specs.Written.{default_bytes, hash_mark}

-- what a node writes, from its parts
abbrev pub writing_at : Node → Writing
writing_at n = writing_step (map-Tree Tree Writing writing (layer n))

pub writing_view : (n : Node) (a : Tree) → view_of n ≡ a → writing_at n ≡ writing a
writing_view n a e = sym (fold-roll-Tree Writing writing_step (layer n)) ∙ ap writing e

pub drop_end : {X : Type 0} (i : ℕ) (xs : List X) → length xs ≤ i → drop i xs ≡ []
drop_end zero [] h = refl
drop_end (suc i) [] h = refl
drop_end zero (x ∷ xs) h = absurd (omega arith)
drop_end (suc i) (x ∷ xs) h = drop_end i xs (omega arith)

-- a hash: its mark, its count, its pairs, its default
pub hash_is : (ps : List (Writing × Writing)) (d : Option Writing) (s : List (List ℕ)) → (these (hash_mark d ∷ []) then (these (long_from (length ps)) then (each_pair ps then default_bytes d))) s ≡ hash_bytes ps d s
hash_is ps None s = ap (λ (bs : List ℕ). let r : List ℕ × List (List ℕ) = (123 ∷ (long_from (length ps) ++ bs), (each_pair ps s).1) in r) (append-nil (each_pair ps s).0)
hash_is ps (Some d) s = refl

-- a value that its class dumped as bytes, where it has variables
pub dumped_is : (c bs : List ℕ) (fs : List (List ℕ × Writing)) (s : List (List ℕ)) → (fs ≡ [] → ⊥) → (these (73 ∷ 117 ∷ []) then (symbol_bytes c then (these (string_bytes_of bs) then fields_bytes fs))) s ≡ dumped_bytes c bs fs s
dumped_is c bs [] s h = absurd (h refl)
dumped_is c bs (f ∷ fs) s h = refl

pub map_none : (fs : List (List ℕ × Tree)) → map {A = List ℕ × Tree} {B = List ℕ × Writing} (λ f. (f.0, writing f.1)) fs ≡ [] → fs ≡ []
map_none [] h = refl
map_none (f ∷ fs) h = absurd (cc)
