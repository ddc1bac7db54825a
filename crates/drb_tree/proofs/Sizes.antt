-- The depth and the nodes of a value, form by form.
use Rattle.std.specs.Prelude.{ℕ, ◌≡◌, ◌+◌, List, map, Option, None, Some}
use Rattle.drb_tree.specs.declared.Tree.{Tree}
use Rattle.drb_tree.specs.declared.Tree.TheViews.{roll-Tree}
use Rattle.drb_tree.specs.declared.Tree.TheOpen.{Tree-F}
use Rattle.drb_tree.specs.declared.Tree.TheFolds.{fold-roll-Tree, map-Tree}
use Rattle.drb_tree.specs.Sizes.{depth, depth_step, most, pairs_depth, fields_depth, nodes, nodes_step}

-- one level of the depth
pub depth_roll : (l : Tree-F Tree) → depth (roll-Tree l) ≡ depth_step (map-Tree Tree ℕ depth l)
depth_roll l = fold-roll-Tree ℕ depth_step l

-- one level of the nodes
pub nodes_roll : (l : Tree-F Tree) → nodes (roll-Tree l) ≡ nodes_step (map-Tree Tree ℕ nodes l)
nodes_roll l = fold-roll-Tree ℕ nodes_step l

pub depth_list : (ts : List Tree) → depth (roll-Tree (Tree-F.List ts)) ≡ most (map depth ts) + 1
depth_list ts = depth_roll (Tree-F.List ts)

pub depth_hash : (ps : List (Tree × Tree)) (d : Option Tree) → depth (roll-Tree (Tree-F.Hash ps d)) ≡ pairs_depth (ps, d) + 1
depth_hash ps None = depth_roll (Tree-F.Hash ps None)
depth_hash ps (Some d) = depth_roll (Tree-F.Hash ps (Some d))

pub depth_object : (c : List ℕ) (fs : List (List ℕ × Tree)) → depth (roll-Tree (Tree-F.Object c fs)) ≡ fields_depth fs + 1
depth_object c fs = depth_roll (Tree-F.Object c fs)

pub depth_struct : (c : List ℕ) (fs : List (List ℕ × Tree)) → depth (roll-Tree (Tree-F.Struct c fs)) ≡ fields_depth fs + 1
depth_struct c fs = depth_roll (Tree-F.Struct c fs)

pub depth_dumped : (c bs : List ℕ) (fs : List (List ℕ × Tree)) → depth (roll-Tree (Tree-F.Dumped c bs fs)) ≡ fields_depth fs + 1
depth_dumped c bs fs = depth_roll (Tree-F.Dumped c bs fs)

pub depth_wrapped : (c : List ℕ) (t : Tree) → depth (roll-Tree (Tree-F.Wrapped c t)) ≡ depth t + 1
depth_wrapped c t = depth_roll (Tree-F.Wrapped c t)
