-- What is written of a value whose class dumps itself is read again.
use Rattle.std.proofs.Common.{◌≡◌, ℕ, zero, suc, inr, List, [], ◌∷◌, ◌++◌, length, map, Ok, false, refl, ap, ◌∙◌, arith, append_assoc}
use Rattle.std.specs.Prelude.{bytes_eq}
use Rattle.std.proofs.lemmas.Str.{is_utf8-from_IsUtf8}
use Rattle.std.proofs.lemmas.Slice.Eq.{bytes_eq-Decides}
use Rattle.std.proofs.lemmas.List.{length-map}
use Rattle.std.proofs.lemmas.Grind.{common_steps}
use Rattle.drb_tree.specs.declared.Remote.{Remote}
use Rattle.drb_tree.specs.declared.Tree.TheViews.{roll-Tree}
use Rattle.drb_tree.specs.declared.Tree.TheOpen.{Tree-F}
use Rattle.drb_tree.specs.Sizes.{heavy}
use Rattle.drb_tree.specs.Kept.{max_pairs, Keeps, Small, remote_class}
use Rattle.marshal_grammar.specs.Contexts.{Context, past, add_nodes, add_object}
use Rattle.marshal_grammar.specs.Grammar.{Grammar}
use Rattle.marshal_grammar.specs.Reading.{read}
use Rattle.marshal_grammar.specs.Trees as tree
use Rattle.marshal_grammar.specs.Values.{body, value, held_by}
use Rattle.marshal_grammar.specs.Spelled.{long_from, string_bytes_of, these, ◌then◌, symbol_bytes, each_field}
use Rattle.marshal_grammar.proofs.Pieces.{after_long, after_string, count_gives, string_gives, nodes_give, name_gives, not_more}
use Rattle.marshal_grammar.proofs.Parts.{here_every}
use Rattle.marshal_grammar.proofs.WrittenParts.{bytes_then, Written, Such, field_of, field_writing, fields_put}
use Rattle.marshal_grammar.proofs.WrittenForms.{by_layer, kept_parts, nodes_roll, depth_roll}

unlike : (a b : List ℕ) → (a ≡ b → ⊥) → bytes_eq a b ≡ false
unlike a b h = let f = bytes_eq-Decides a b in grind (arith, common_steps, f, h)

module _ (remotes : Grammar Remote) where
  -- a class that is not that of remote objects keeps its bytes
  held_read : (at : ℕ) (s bs : List ℕ) (d : Context) (rest : List ℕ) → bytes_eq s remote_class ≡ false → read (held_by remotes at s bs (bytes_eq s remote_class)) d rest ≡ Ok (inr (s, bs), d, rest)
  held_read at s bs d rest e = ap (λ b. read (held_by remotes at s bs b) d rest) e

  bare_written : (s bs : List ℕ) → Written remotes (roll-Tree (Tree-F.Dumped s bs []))
  unfolding value body
  bare_written s bs k zero c h l m = absurd (omega (arith, h, depth_roll (Tree-F.Dumped s bs [])))
  bare_written s bs k (suc room) c h l m =
      let t = Tree-F.Dumped s bs [] in
      let a = here_every Keeps t k.0 in
      let f = name_gives s (past 1 c) (is_utf8-from_IsUtf8 s a.0) l (omega (arith, m, nodes_roll t)) in
      let e = after_string bs f.0 in
      let d = add_object (tree.dumped s bs []) (add_nodes (heavy bs) e) in
      by_layer remotes (suc room) t c (
        d,
        (λ rest. ap (read (value remotes (suc room)) c) (ap (λ (ys : List ℕ). 117 ∷ ys) (bytes_then (symbol_bytes s) (these (string_bytes_of bs)) c.symbols f.0.symbols rest f.2.symbols))
            ∙ rw (f.1 (string_bytes_of bs ++ rest), string_gives bs f.0 (omega (arith, m, nodes_roll t)) rest, held_read c.at s bs e rest (unlike s remote_class a.1), nodes_give c.at (heavy bs) e rest (omega (arith, f.2.nodes, m, nodes_roll t))) refl),
        record { symbols = f.2.symbols; few = omega (arith, f.2.few); nodes = omega (arith, f.2.nodes) },
      )

  full_written : (s bs : List ℕ) (q : List ℕ × Such remotes) (qs : List (List ℕ × Such remotes)) → Written remotes (roll-Tree (Tree-F.Dumped s bs (map (field_of remotes) (q ∷ qs))))
  unfolding value body
  full_written s bs q qs k zero c h l m = absurd (omega (arith, h, depth_roll (Tree-F.Dumped s bs (map (field_of remotes) (q ∷ qs)))))
  full_written s bs q qs k (suc room) c h l m =
      let fs = map (field_of remotes) (q ∷ qs) in
      let n = length fs in
      let t = Tree-F.Dumped s bs fs in
      let a = here_every Keeps t k.0 in
      let p = here_every Small t k.2 in
      let f = name_gives s (past 1 (past 1 c)) (is_utf8-from_IsUtf8 s a.0) l (omega (arith, m, nodes_roll t)) in
      let e = after_string bs f.0 in
      let i = add_nodes (heavy bs) (after_long n e) in
      let g = fields_put remotes (q ∷ qs) room i (kept_parts t k) a.2.0 a.2.1 (omega (arith, h, depth_roll t)) (omega (arith, l, f.2.few, f.2.nodes)) (omega (arith, f.2.nodes, m, nodes_roll t)) in
      let w = each_field (map (field_writing remotes) fs) in
      let z : length (map (field_writing remotes) fs) ≡ n = length-map fs (field_writing remotes) in
      let d = add_object (tree.dumped s bs fs) g.0 in
      let str = string_bytes_of bs in
      by_layer remotes (suc room) t c (rw z (
        d,
        (λ rest. ap (read (value remotes (suc room)) c) (ap (λ (ys : List ℕ). 73 ∷ 117 ∷ ys)
            (bytes_then (symbol_bytes s) (these str then these (long_from n) then w) c.symbols f.0.symbols rest f.2.symbols
            ∙ ap (λ (ys : List ℕ). (symbol_bytes s c.symbols).0 ++ ys) (append_assoc str (long_from n ++ (w f.0.symbols).0) rest ∙ ap (λ (ys : List ℕ). str ++ ys) (append_assoc (long_from n) (w f.0.symbols).0 rest))))
            ∙ rw (
              f.1 (str ++ (long_from n ++ ((w f.0.symbols).0 ++ rest))),
              string_gives bs f.0 (omega (arith, m, nodes_roll t)) (long_from n ++ ((w f.0.symbols).0 ++ rest)),
              held_read c.at s bs e (long_from n ++ ((w f.0.symbols).0 ++ rest)) (unlike s remote_class a.1),
              count_gives n e (omega (arith, p)) ((w f.0.symbols).0 ++ rest),
              not_more n max_pairs p,
              nodes_give c.at (heavy bs) (after_long n e) ((w f.0.symbols).0 ++ rest) (omega (arith, f.2.nodes, m, nodes_roll t)),
              g.1 rest,
            ) refl),
        record { symbols = g.2.symbols ∙ ap (λ v. (w v).1) f.2.symbols; few = omega (arith, f.2.few, g.2.few); nodes = omega (arith, f.2.nodes, g.2.nodes) },
      ))

  pub dumped_written : (s bs : List ℕ) (qs : List (List ℕ × Such remotes)) → Written remotes (roll-Tree (Tree-F.Dumped s bs (map (field_of remotes) qs)))
  dumped_written s bs [] = bare_written s bs
  dumped_written s bs (q ∷ qs) = full_written s bs q qs
