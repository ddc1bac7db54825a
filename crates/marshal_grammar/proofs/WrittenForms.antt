-- What is written of a value with parts is read again, where its parts are.
use Rattle.std.proofs.Common.{◌≡◌, ℕ, zero, suc, ◌+◌, ◌*◌, ◌<◌, ◌≤◌, ◌^◌, List, [], ◌∷◌, ◌++◌, length, map, Some, None, refl, ap, sym, ◌∙◌, arith, append_assoc, subst}
use Rattle.std.proofs.lemmas.List.{length-map}
use Rattle.drb_tree.specs.declared.Remote.{Remote}
use Rattle.drb_tree.specs.declared.Tree.{Tree}
use Rattle.drb_tree.specs.declared.Tree.TheViews.{roll-Tree}
use Rattle.drb_tree.specs.declared.Tree.TheOpen.{Tree-F}
use Rattle.drb_tree.specs.declared.Tree.TheFolds.{fold-roll-Tree, map-Tree, every-Tree, ind-Tree}
use Rattle.drb_tree.specs.Sizes.{depth, depth_step, nodes, nodes_step, most, total}
use Rattle.drb_tree.specs.Kept.{max_nodes, Keeps, InRange, Small}
use Rattle.marshal_grammar.specs.Contexts.{Context, past, add_nodes, begin_object, finish_object}
use Rattle.marshal_grammar.specs.Grammar.{Grammar}
use Rattle.marshal_grammar.specs.Reading.{read}
use Rattle.marshal_grammar.specs.Trees as tree
use Rattle.marshal_grammar.specs.Values.{body, value}
use Rattle.marshal_grammar.specs.Spelled.{long_from, Writing, these, ◌then◌, each_value, writing, writing_step}
use Rattle.marshal_grammar.proofs.Pieces.{after_long, count_gives, nodes_give}
use Rattle.marshal_grammar.proofs.WrittenLeaves.{Puts}
use Rattle.marshal_grammar.proofs.Parts.{Each, parts, parts_every, each_three}
use Rattle.marshal_grammar.proofs.WrittenParts.{Kept, Written, Such, tree_of, values_put}

-- one layer of what is written, of the nodes and of the depth
pub writing_roll : (l : Tree-F Tree) → writing (roll-Tree l) ≡ writing_step (map-Tree Tree Writing writing l)
writing_roll l = fold-roll-Tree Writing writing_step l

pub nodes_roll : (l : Tree-F Tree) → nodes (roll-Tree l) ≡ nodes_step (map-Tree Tree ℕ nodes l)
nodes_roll l = fold-roll-Tree ℕ nodes_step l

pub depth_roll : (l : Tree-F Tree) → depth (roll-Tree l) ≡ depth_step (map-Tree Tree ℕ depth l)
depth_roll l = fold-roll-Tree ℕ depth_step l

-- the parts of a value that is kept are kept
pub kept_parts : (l : Tree-F Tree) → Kept (roll-Tree l) → Each Kept (parts l)
kept_parts l k = each_three (every-Tree Keeps) (every-Tree InRange) (every-Tree Small) (parts l) (parts_every Keeps l k.0) (parts_every InRange l k.1) (parts_every Small l k.2)

-- one layer of what has to be shown
pub by_layer : (remotes : Grammar Remote) (room : ℕ) (l : Tree-F Tree) (c : Context) → Puts remotes room (writing_step (map-Tree Tree Writing writing l)) (nodes_step (map-Tree Tree ℕ nodes l)) (roll-Tree l) c → Puts remotes room (writing (roll-Tree l)) (nodes (roll-Tree l)) (roll-Tree l) c
by_layer remotes room l c p = subst (λ w. Puts remotes room w (nodes (roll-Tree l)) (roll-Tree l) c) (sym (writing_roll l)) (subst (λ n. Puts remotes room (writing_step (map-Tree Tree Writing writing l)) n (roll-Tree l) c) (sym (nodes_roll l)) p)

leaf_count : (l : Tree-F Tree) → 1 ≤ nodes_step (map-Tree Tree ℕ nodes l)
leaf_count Tree-F.Nil = omega arith
leaf_count (Tree-F.Bool b) = omega arith
leaf_count (Tree-F.Int i) = omega arith
leaf_count (Tree-F.Sym s) = omega arith
leaf_count (Tree-F.Text t) = omega arith
leaf_count (Tree-F.List ts) = omega arith
leaf_count (Tree-F.Hash ps None) = omega arith
leaf_count (Tree-F.Hash ps (Some d)) = omega arith
leaf_count (Tree-F.Class n) = omega arith
leaf_count (Tree-F.Module n) = omega arith
leaf_count (Tree-F.Object c fs) = omega arith
leaf_count (Tree-F.Struct c fs) = omega arith
leaf_count (Tree-F.Dumped c bs fs) = omega arith
leaf_count (Tree-F.Wrapped c t) = omega arith
leaf_count (Tree-F.Remote r) = omega arith

-- every value counts at least 1
pub some_nodes : (t : Tree) → 1 ≤ nodes t
some_nodes = ind-Tree (λ t. 1 ≤ nodes t) (λ x y is. subst (λ (z : Tree-F Tree). 1 ≤ nodes (roll-Tree z)) is (omega (arith, nodes_roll (map-Tree _ Tree (λ e. e.0) y), leaf_count (map-Tree _ Tree (λ e. e.0) y))))

pub few_values : (ts : List Tree) → length ts ≤ total (map nodes ts)
few_values [] = omega arith
few_values (t ∷ ts) = omega (arith, few_values ts, some_nodes t)

module _ (remotes : Grammar Remote) where
  list_goes : (ys : List (Such remotes)) (room : ℕ) (c : Context) → let vs = map (tree_of remotes) ys in Each Kept vs → most (map depth vs) ≤ room → length c.symbols ≤ 2 * c.nodes → c.nodes + (1 + total (map nodes vs)) ≤ max_nodes
      → Puts remotes (suc room) (these (91 ∷ long_from (length (map writing vs))) then each_value (map writing vs)) (1 + total (map nodes vs)) (tree.list vs) c
  unfolding value body
  list_goes ys room c k h l m =
      let vs = map (tree_of remotes) ys in
      let n = length vs in
      let e = add_nodes 1 (after_long n (past 1 c)) in
      let g = values_put remotes ys room (begin_object e) k h (omega (arith, l)) (omega (arith, m)) in
      let w = each_value (map writing vs) in
      let z : length (map writing vs) ≡ n = length-map vs writing in
      let q : n < 2 ^ 32 = omega (arith, few_values vs, m) in
      let d = finish_object (length e.objects) (tree.list vs) g.0 in
      rw z (
        d,
        (λ rest. ap (read (value remotes (suc room)) c) (append_assoc (91 ∷ long_from n) (w c.symbols).0 rest)
            ∙ rw (count_gives n (past 1 c) q ((w c.symbols).0 ++ rest), nodes_give c.at 1 (after_long n (past 1 c)) ((w c.symbols).0 ++ rest) (omega (arith, m)), g.1 rest) refl),
        record { symbols = g.2.symbols; few = omega (arith, g.2.few); nodes = omega (arith, g.2.nodes) },
      )

  pub list_written : (ys : List (Such remotes)) → Written remotes (roll-Tree (Tree-F.List (map (tree_of remotes) ys)))
  list_written ys k zero c h l m = absurd (omega (arith, h, depth_roll (Tree-F.List (map (tree_of remotes) ys))))
  list_written ys k (suc room) c h l m =
      let f = Tree-F.List (map (tree_of remotes) ys) in
      by_layer remotes (suc room) f c (list_goes ys room c (kept_parts f k) (omega (arith, h, depth_roll f)) l (omega (arith, m, nodes_roll f)))
