-- What is written of a hash is read again.
use Rattle.std.proofs.Common.{◌≡◌, ℕ, zero, suc, ◌+◌, ◌*◌, ◌≤◌, ◌<◌, ◌^◌, List, [], ◌∷◌, ◌++◌, length, map, Some, None, true, refl, ap, ◌∙◌, arith, append_assoc}
use Rattle.std.proofs.lemmas.List.{length-map}
use Rattle.drb_tree.specs.declared.Remote.{Remote}
use Rattle.drb_tree.specs.declared.Tree.TheViews.{roll-Tree}
use Rattle.drb_tree.specs.declared.Tree.TheOpen.{Tree-F}
use Rattle.drb_tree.specs.Sizes.{depth, nodes, most_pairs, total_pairs}
use Rattle.drb_tree.specs.Kept.{max_nodes, max_pairs, Keeps, Small, keys_distinct}
use Rattle.marshal_grammar.specs.Contexts.{Context, past, add_nodes, begin_object, finish_object}
use Rattle.marshal_grammar.specs.Grammar.{Grammar}
use Rattle.marshal_grammar.specs.Reading.{read}
use Rattle.marshal_grammar.specs.Trees as tree
use Rattle.marshal_grammar.specs.Values.{body, value}
use Rattle.marshal_grammar.specs.Spelled.{long_from, these, ◌then◌, each_pair, writing}
use Rattle.marshal_grammar.proofs.Pieces.{after_long, count_gives, nodes_give, not_more}
use Rattle.marshal_grammar.proofs.WrittenLeaves.{Puts}
use Rattle.marshal_grammar.proofs.Parts.{Each, pair_parts, here_every}
use Rattle.marshal_grammar.proofs.WrittenParts.{bytes_then, counts_then, Kept, Written, Such, pair_of, pair_depth, pair_nodes, pair_writing, pairs_put}
use Rattle.marshal_grammar.proofs.WrittenForms.{by_layer, kept_parts, nodes_roll, depth_roll}

module _ (remotes : Grammar Remote) where
  hash_goes : (qs : List (Such remotes × Such remotes)) (room : ℕ) (c : Context) → let ps = map (pair_of remotes) qs in Each Kept (pair_parts ps) → keys_distinct ps ≡ true → length ps ≤ max_pairs
      → most_pairs (map (pair_depth remotes) ps) ≤ room → length c.symbols ≤ 2 * c.nodes → c.nodes + (1 + total_pairs (map (pair_nodes remotes) ps) + 0) ≤ max_nodes
      → Puts remotes (suc room) (these (123 ∷ long_from (length (map (pair_writing remotes) ps))) then each_pair (map (pair_writing remotes) ps)) (1 + total_pairs (map (pair_nodes remotes) ps) + 0) (tree.hash ps None) c
  unfolding value body
  hash_goes qs room c k a p h l m =
      let ps = map (pair_of remotes) qs in
      let n = length ps in
      let e = add_nodes 1 (after_long n (past 1 c)) in
      let g = pairs_put remotes qs [] room (begin_object e) k a h (omega (arith, l)) (omega (arith, m)) in
      let w = each_pair (map (pair_writing remotes) ps) in
      let z : length (map (pair_writing remotes) ps) ≡ n = length-map ps (pair_writing remotes) in
      let q : n < 2 ^ 32 = omega (arith, p) in
      let d = finish_object (length e.objects) (tree.hash ps None) g.0 in
      rw z (
        d,
        (λ rest. ap (read (value remotes (suc room)) c) (append_assoc (123 ∷ long_from n) (w c.symbols).0 rest)
            ∙ rw (count_gives n (past 1 c) q ((w c.symbols).0 ++ rest), not_more n max_pairs p, nodes_give c.at 1 (after_long n (past 1 c)) ((w c.symbols).0 ++ rest) (omega (arith, m)), g.1 rest) refl),
        record { symbols = g.2.symbols; few = omega (arith, g.2.few); nodes = omega (arith, g.2.nodes) },
      )

  default_goes : (qs : List (Such remotes × Such remotes)) (y : Such remotes) (room : ℕ) (c : Context) → let ps = map (pair_of remotes) qs in Each Kept (pair_parts ps) → Kept y.0 → keys_distinct ps ≡ true → length ps ≤ max_pairs
      → most_pairs (map (pair_depth remotes) ps) ≤ room → depth y.0 ≤ room → length c.symbols ≤ 2 * c.nodes → c.nodes + (1 + total_pairs (map (pair_nodes remotes) ps) + nodes y.0) ≤ max_nodes
      → Puts remotes (suc room) (these (125 ∷ long_from (length (map (pair_writing remotes) ps))) then each_pair (map (pair_writing remotes) ps) then writing y.0) (1 + total_pairs (map (pair_nodes remotes) ps) + nodes y.0) (tree.hash ps (Some y.0)) c
  unfolding value body
  default_goes qs y room c k j a p h i l m =
      let ps = map (pair_of remotes) qs in
      let n = length ps in
      let e = add_nodes 1 (after_long n (past 1 c)) in
      let g = pairs_put remotes qs [] room (begin_object e) k a h (omega (arith, l)) (omega (arith, m)) in
      let f = y.1 j room g.0 i (omega (arith, g.2.few, g.2.nodes, l)) (omega (arith, g.2.nodes, m)) in
      let w = each_pair (map (pair_writing remotes) ps) in
      let z : length (map (pair_writing remotes) ps) ≡ n = length-map ps (pair_writing remotes) in
      let q : n < 2 ^ 32 = omega (arith, p) in
      let d = finish_object (length e.objects) (tree.hash ps (Some y.0)) f.0 in
      let b = counts_then (total_pairs (map (pair_nodes remotes) ps)) (nodes y.0) w (writing y.0) (begin_object e) g.0 f.0 g.2 f.2 in
      rw z (
        d,
        (λ rest. ap (read (value remotes (suc room)) c) (append_assoc (125 ∷ long_from n) ((w then writing y.0) c.symbols).0 rest ∙ ap (λ (ys : List ℕ). 125 ∷ (long_from n ++ ys)) (bytes_then w (writing y.0) c.symbols g.0.symbols rest g.2.symbols))
            ∙ rw (count_gives n (past 1 c) q ((w c.symbols).0 ++ ((writing y.0 g.0.symbols).0 ++ rest)), not_more n max_pairs p, nodes_give c.at 1 (after_long n (past 1 c)) ((w c.symbols).0 ++ ((writing y.0 g.0.symbols).0 ++ rest)) (omega (arith, m)), g.1 ((writing y.0 g.0.symbols).0 ++ rest), f.1 rest) refl),
        record { symbols = b.symbols; few = omega (arith, b.few); nodes = omega (arith, b.nodes) },
      )

  pub hash_written : (qs : List (Such remotes × Such remotes)) → Written remotes (roll-Tree (Tree-F.Hash (map (pair_of remotes) qs) None))
  hash_written qs k zero c h l m = absurd (omega (arith, h, depth_roll (Tree-F.Hash (map (pair_of remotes) qs) None)))
  hash_written qs k (suc room) c h l m =
      let f = Tree-F.Hash (map (pair_of remotes) qs) None in
      by_layer remotes (suc room) f c (hash_goes qs room c (kept_parts f k) (here_every Keeps f k.0) (here_every Small f k.2) (omega (arith, h, depth_roll f)) l (omega (arith, m, nodes_roll f)))

  pub default_written : (qs : List (Such remotes × Such remotes)) (y : Such remotes) → Written remotes (roll-Tree (Tree-F.Hash (map (pair_of remotes) qs) (Some y.0)))
  default_written qs y k zero c h l m = absurd (omega (arith, h, depth_roll (Tree-F.Hash (map (pair_of remotes) qs) (Some y.0))))
  default_written qs y k (suc room) c h l m =
      let f = Tree-F.Hash (map (pair_of remotes) qs) (Some y.0) in
      let e = kept_parts f k in
      by_layer remotes (suc room) f c (default_goes qs y room c e.1 e.0 (here_every Keeps f k.0) (here_every Small f k.2) (omega (arith, h, depth_roll f)) (omega (arith, h, depth_roll f)) l (omega (arith, m, nodes_roll f)))
