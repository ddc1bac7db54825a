-- What is written of the parts of a value is read again, where each of them is.
use Rattle.std.proofs.Common.{◌≡◌, ℕ, suc, ◌+◌, ◌*◌, ◌≤◌, List, [], ◌∷◌, ◌++◌, length, map, Ok, Bool, true, false, not, ◌&&◌, ◌||◌, refl, ap, sym, ◌∙◌, arith, append_assoc, append-nil, subst}
use Rattle.std.specs.Prelude.{bytes_eq, All, IsUtf8}
use Rattle.std.specs.Str.{is_utf8}
use Rattle.std.proofs.lemmas.Str.{is_utf8-from_IsUtf8}
use Rattle.std.proofs.lemmas.Slice.Eq.{bytes_eq-Decides}
use Rattle.std.proofs.lemmas.List.Elements.{All-head, All-tail}
use Rattle.std.proofs.lemmas.Grind.{common_steps}
use Rattle.drb_tree.specs.declared.Remote.{Remote}
use Rattle.drb_tree.specs.declared.Tree.{Tree}
use Rattle.drb_tree.specs.declared.Tree.TheFolds.{every-Tree}
use Rattle.drb_tree.specs.Sizes.{depth, nodes, heavy, most, most_pairs, most_fields, total, total_pairs, total_fields}
use Rattle.drb_tree.specs.Kept.{max_nodes, Keeps, InRange, Small, has_key, keys_distinct_after, has_name, names_distinct}
use Rattle.marshal_grammar.specs.Contexts.{Context}
use Rattle.marshal_grammar.specs.Grammar.{Grammar}
use Rattle.marshal_grammar.specs.Reading.{read}
use Rattle.marshal_grammar.specs.Values.{value, values, pairs, fields}
use Rattle.marshal_grammar.specs.Spelled.{Writing, these, ◌then◌, symbol_bytes, each_value, each_pair, each_field, writing}
use Rattle.marshal_grammar.proofs.Pieces.{Gives, Counts, name_gives}
use Rattle.marshal_grammar.proofs.WrittenLeaves.{Puts}
use Rattle.marshal_grammar.proofs.Parts.{Each, pair_parts, field_parts}

-- what is written one after the other
pub bytes_then : (u w : Writing) (s t : List (List ℕ)) (rest : List ℕ) → t ≡ (u s).1 → ((u then w) s).0 ++ rest ≡ (u s).0 ++ ((w t).0 ++ rest)
bytes_then u w s t rest e = append_assoc (u s).0 (w (u s).1).0 rest ∙ ap (λ v. (u s).0 ++ ((w v).0 ++ rest)) (sym e)

pub counts_then : (k j : ℕ) (u w : Writing) (c e d : Context) → Counts k u c e → Counts j w e d → Counts (k + j) (u then w) c d
counts_then k j u w c e d f g = record { symbols = g.symbols ∙ ap (λ t. (w t).1) f.symbols; few = omega (arith, f.few, g.few); nodes = omega (arith, f.nodes, g.nodes) }

pub counts_are : (k j : ℕ) (w : Writing) (c d : Context) → k ≡ j → Counts k w c d → Counts j w c d
counts_are k j w c d e f = subst (λ n. Counts n w c d) e f

pub counts_none : (c : Context) → Counts 0 (these []) c c
counts_none c = record { symbols = refl; few = omega arith; nodes = omega arith }

-- a value and all its parts keep what they have to, are in range and fit
abbrev pub Kept : Tree → Type 0
Kept t = every-Tree Keeps t × every-Tree InRange t × every-Tree Small t

and_is : (a b : Bool) → a && b ≡ true → (a ≡ true) × (b ≡ true)
and_is true b e = (refl, e)
and_is false b e = absurd (cc)

not_is : (a : Bool) → not a ≡ true → a ≡ false
not_is true e = absurd (cc)
not_is false e = refl

-- no name of these is among those before
abbrev FreshAfter : List (List ℕ × Tree) → List (List ℕ × Tree) → Type 0
FreshAfter before [] = Unit {0}
FreshAfter before (f ∷ fs) = (has_name f.0 before ≡ false) × FreshAfter before fs

or_false : (a b : Bool) → a || b ≡ false → (a ≡ false) × (b ≡ false)
or_false true b e = absurd (cc)
or_false false b e = (refl, e)

false_or : (a b : Bool) → a ≡ false → b ≡ false → a || b ≡ false
false_or true b e f = absurd (cc)
false_or false b e f = f

apart : (a b : List ℕ) → bytes_eq a b ≡ false → bytes_eq b a ≡ false
apart a b e = let f = bytes_eq-Decides a b in let g = bytes_eq-Decides b a in grind (arith, common_steps, f, g)

name_after : (n : List ℕ) (f : List ℕ × Tree) (before : List (List ℕ × Tree)) → has_name n before ≡ false → bytes_eq f.0 n ≡ false → has_name n (before ++ (f ∷ [])) ≡ false
name_after n f [] h e = false_or (bytes_eq f.0 n) false e refl
name_after n f (b ∷ before) h e = let k = or_false (bytes_eq b.0 n) (has_name n before) h in false_or (bytes_eq b.0 n) (has_name n (before ++ (f ∷ []))) k.0 (name_after n f before k.1 e)

fresh_after : (f : List ℕ × Tree) (before fs : List (List ℕ × Tree)) → FreshAfter before fs → has_name f.0 fs ≡ false → FreshAfter (before ++ (f ∷ [])) fs
fresh_after f before [] h e = tt
fresh_after f before (g ∷ fs) h e =
    let k = or_false (bytes_eq g.0 f.0) (has_name f.0 fs) e in
    (name_after g.0 f before h.0 (apart g.0 f.0 k.0), fresh_after f before fs h.1 k.1)

-- a key, its value and the pairs after them
pair_step : (part : Grammar Tree) (before qs : List (Tree × Tree)) (n : ℕ) (k v : Tree) (c f g d : Context) (x y z rest : List ℕ) → not (has_key k before) ≡ true
    → read part c x ≡ Ok (k, f, y) → read part f y ≡ Ok (v, g, z) → read (pairs part (before ++ ((k, v) ∷ [])) n) g z ≡ Ok (qs, d, rest) → read (pairs part before (suc n)) c x ≡ Ok (qs, d, rest)
pair_step part before qs n k v c f g d x y z rest a i j l = rw (i, a, j, l) refl

module _ (remotes : Grammar Remote) where
  -- what is written of a value is read again
  abbrev pub Written : Tree → Type 0
  Written t = Kept t → (room : ℕ) (c : Context) → depth t ≤ room → length c.symbols ≤ 2 * c.nodes → c.nodes + nodes t ≤ max_nodes → Puts remotes room (writing t) (nodes t) t c

  abbrev pub Such : Type 0
  Such = (t : Tree) × Written t

  abbrev pub tree_of : Such → Tree
  tree_of y = y.0

  pub values_put : (ys : List Such) (room : ℕ) (c : Context) → let vs = map tree_of ys in Each Kept vs → most (map depth vs) ≤ room → length c.symbols ≤ 2 * c.nodes → c.nodes + total (map nodes vs) ≤ max_nodes
      → (d : Context) × Gives (values (value remotes room) (length vs)) c (each_value (map writing vs) c.symbols).0 vs d × Counts (total (map nodes vs)) (each_value (map writing vs)) c d
  values_put [] room c k h l m = (c, (λ rest. refl), counts_none c)
  values_put (y ∷ ys) room c k h l m =
      let vs = map tree_of ys in
      let f = y.1 k.0 room c (omega arith) l (omega arith) in
      let g = values_put ys room f.0 k.1 (omega arith) (omega (arith, f.2.few, f.2.nodes)) (omega (arith, f.2.nodes)) in
      let w = each_value (map writing vs) in (
        g.0,
        (λ rest. ap (read (values (value remotes room) (suc (length vs))) c) (bytes_then (writing y.0) w c.symbols f.0.symbols rest f.2.symbols)
            ∙ rw (f.1 ((w f.0.symbols).0 ++ rest), g.1 rest) refl),
        counts_then (nodes y.0) (total (map nodes vs)) (writing y.0) w c f.0 g.0 f.2 g.2,
      )

  abbrev pub pair_of : Such × Such → Tree × Tree
  pair_of q = (q.0.0, q.1.0)

  abbrev pub pair_depth : Tree × Tree → ℕ × ℕ
  pair_depth p = (depth p.0, depth p.1)

  abbrev pub pair_nodes : Tree × Tree → ℕ × ℕ
  pair_nodes p = (nodes p.0, nodes p.1)

  abbrev pub pair_writing : Tree × Tree → Writing × Writing
  pair_writing p = (writing p.0, writing p.1)

  pub pairs_put : (qs : List (Such × Such)) (before : List (Tree × Tree)) (room : ℕ) (c : Context) → let ps = map pair_of qs in Each Kept (pair_parts ps) → keys_distinct_after before ps ≡ true
      → most_pairs (map pair_depth ps) ≤ room → length c.symbols ≤ 2 * c.nodes → c.nodes + total_pairs (map pair_nodes ps) ≤ max_nodes
      → (d : Context) × Gives (pairs (value remotes room) before (length ps)) c (each_pair (map pair_writing ps) c.symbols).0 (before ++ ps) d × Counts (total_pairs (map pair_nodes ps)) (each_pair (map pair_writing ps)) c d
  pairs_put [] before room c k a h l m = (c, (λ rest. rw append-nil refl), counts_none c)
  pairs_put (q ∷ qs) before room c k a h l m =
      let ps = map pair_of qs in
      let p = pair_of q in
      let b = and_is (not (has_key p.0 before)) (keys_distinct_after (before ++ (p ∷ [])) ps) a in
      let f = q.0.1 k.0 room c (omega arith) l (omega arith) in
      let g = q.1.1 k.1.0 room f.0 (omega arith) (omega (arith, f.2.few, f.2.nodes)) (omega (arith, f.2.nodes)) in
      let i = pairs_put qs (before ++ (p ∷ [])) room g.0 k.1.1 b.1 (omega arith) (omega (arith, f.2.few, f.2.nodes, g.2.few, g.2.nodes)) (omega (arith, f.2.nodes, g.2.nodes)) in
      let w = each_pair (map pair_writing ps) in (
        i.0,
        (λ rest.
            ap (read (pairs (value remotes room) before (suc (length ps))) c)
            (bytes_then (writing p.0) (writing p.1 then w) c.symbols f.0.symbols rest f.2.symbols
            ∙ ap (λ (ys : List ℕ). (writing p.0 c.symbols).0 ++ ys) (bytes_then (writing p.1) w f.0.symbols g.0.symbols rest g.2.symbols))
            ∙ pair_step (value remotes room) before (before ++ (p ∷ ps)) (length ps) p.0 p.1 c f.0 g.0 i.0 _ ((writing p.1 f.0.symbols).0 ++ ((w g.0.symbols).0 ++ rest)) ((w g.0.symbols).0 ++ rest) rest b.0
            (f.1 ((writing p.1 f.0.symbols).0 ++ ((w g.0.symbols).0 ++ rest))) (g.1 ((w g.0.symbols).0 ++ rest))
            (i.1 rest ∙ ap (λ (qs : List (Tree × Tree)). Ok (qs, i.0, rest)) (append_assoc before (p ∷ []) ps))),
        counts_are _ _ (each_pair (map pair_writing (p ∷ ps))) c i.0 (omega arith)
            (counts_then (nodes p.0) (nodes p.1 + total_pairs (map pair_nodes ps)) (writing p.0) (writing p.1 then w) c f.0 i.0 f.2 (counts_then (nodes p.1) (total_pairs (map pair_nodes ps)) (writing p.1) w f.0 g.0 i.0 g.2 i.2)),
      )

  abbrev pub field_of : List ℕ × Such → List ℕ × Tree
  field_of f = (f.0, f.1.0)

  abbrev pub field_depth : List ℕ × Tree → List ℕ × ℕ
  field_depth f = (f.0, depth f.1)

  abbrev pub field_nodes : List ℕ × Tree → List ℕ × ℕ
  field_nodes f = (f.0, nodes f.1)

  abbrev pub field_writing : List ℕ × Tree → List ℕ × Writing
  field_writing f = (f.0, writing f.1)

  fields_go : (qs : List (List ℕ × Such)) (before : List (List ℕ × Tree)) (room : ℕ) (c : Context) → let fs = map field_of qs in Each Kept (field_parts fs) → All (λ (f : List ℕ × Tree). IsUtf8 f.0) fs → FreshAfter before fs → names_distinct fs ≡ true
      → most_fields (map field_depth fs) ≤ room → length c.symbols ≤ 2 * c.nodes → c.nodes + total_fields (map field_nodes fs) ≤ max_nodes
      → (d : Context) × Gives (fields (value remotes room) before (length fs)) c (each_field (map field_writing fs) c.symbols).0 (before ++ fs) d × Counts (total_fields (map field_nodes fs)) (each_field (map field_writing fs)) c d
  fields_go [] before room c k u a n h l m = (c, (λ rest. rw append-nil refl), counts_none c)
  fields_go (q ∷ qs) before room c k u a n h l m =
      let fs = map field_of qs in
      let x = field_of q in
      let b = and_is (not (has_name x.0 fs)) (names_distinct fs) n in
      let v : is_utf8 x.0 ≡ true = is_utf8-from_IsUtf8 x.0 (All-head (λ (f : List ℕ × Tree). IsUtf8 f.0) x fs u) in
      let f = name_gives x.0 c v l (omega arith) in
      let g = q.1.1 k.0 room f.0 (omega arith) (omega (arith, f.2.few, f.2.nodes)) (omega (arith, f.2.nodes)) in
      let i = fields_go qs (before ++ (x ∷ [])) room g.0 k.1 (All-tail (λ (f : List ℕ × Tree). IsUtf8 f.0) x fs u) (fresh_after x before fs a.1 (not_is (has_name x.0 fs) b.0)) b.1 (omega arith) (omega (arith, f.2.few, f.2.nodes, g.2.few, g.2.nodes)) (omega (arith, f.2.nodes, g.2.nodes)) in
      let w = each_field (map field_writing fs) in (
        i.0,
        (λ rest.
            ap (read (fields (value remotes room) before (suc (length fs))) c)
            (bytes_then (symbol_bytes x.0) (writing x.1 then w) c.symbols f.0.symbols rest f.2.symbols
            ∙ ap (λ (ys : List ℕ). (symbol_bytes x.0 c.symbols).0 ++ ys) (bytes_then (writing x.1) w f.0.symbols g.0.symbols rest g.2.symbols))
            ∙ rw (f.1 ((writing x.1 f.0.symbols).0 ++ ((w g.0.symbols).0 ++ rest)), a.0, g.1 ((w g.0.symbols).0 ++ rest), i.1 rest, append_assoc before (x ∷ []) fs) refl),
        counts_are _ _ (each_field (map field_writing (x ∷ fs))) c i.0 (omega arith)
            (counts_then (heavy x.0) (nodes x.1 + total_fields (map field_nodes fs)) (symbol_bytes x.0) (writing x.1 then w) c f.0 i.0 f.2 (counts_then (nodes x.1) (total_fields (map field_nodes fs)) (writing x.1) w f.0 g.0 i.0 g.2 i.2)),
      )

  all_fresh : (fs : List (List ℕ × Tree)) → FreshAfter [] fs
  all_fresh [] = tt
  all_fresh (f ∷ fs) = (refl, all_fresh fs)

  pub fields_put : (qs : List (List ℕ × Such)) (room : ℕ) (c : Context) → let fs = map field_of qs in Each Kept (field_parts fs) → All (λ (f : List ℕ × Tree). IsUtf8 f.0) fs → names_distinct fs ≡ true
      → most_fields (map field_depth fs) ≤ room → length c.symbols ≤ 2 * c.nodes → c.nodes + total_fields (map field_nodes fs) ≤ max_nodes
      → (d : Context) × Gives (fields (value remotes room) [] (length fs)) c (each_field (map field_writing fs) c.symbols).0 fs d × Counts (total_fields (map field_nodes fs)) (each_field (map field_writing fs)) c d
  fields_put qs room c k u n h l m = fields_go qs [] room c k u (all_fresh (map field_of qs)) n h l m
