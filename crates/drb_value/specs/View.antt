-- Which tree a node is.
use Rattle.drb_tree.specs.declared.Tree.{Tree}
use Rattle.drb_tree.specs.declared.Tree.TheViews.{roll-Tree}
use Rattle.drb_tree.specs.declared.Tree.TheOpen as T
use Rattle.drb_tree.specs.declared.Tree.TheFolds.{map-Tree}
use Rattle.drb_tree.specs.Same.{same, same_at}
use Rattle.std.specs.Prelude.{Bool}
use Rattle.drb_value.specs.declared.Node.{Node}
use Rattle.drb_value.specs.declared.Node.TheVariants as N

-- the level of the tree that a node is
abbrev pub layer : Node → T.Tree-F Tree
layer N.Nil = T.Tree-F.Nil
layer (N.Bool b) = T.Tree-F.Bool b
layer (N.Int i) = T.Tree-F.Int i
layer (N.Sym s) = T.Tree-F.Sym s
layer (N.Text t) = T.Tree-F.Text t
layer (N.List vs) = T.Tree-F.List vs
layer (N.Hash p) = T.Tree-F.Hash p.0 p.1
layer (N.Class n) = T.Tree-F.Class n
layer (N.Module n) = T.Tree-F.Module n
layer (N.Object f) = T.Tree-F.Object f.class f.fields
layer (N.Struct f) = T.Tree-F.Struct f.class f.fields
layer (N.Dumped d) = T.Tree-F.Dumped d.0 d.1 d.2
layer (N.Wrapped w) = T.Tree-F.Wrapped w.class w.inner
layer (N.Remote r) = T.Tree-F.Remote r

-- the tree that a node is
abbrev pub view_of : Node → Tree
view_of n = roll-Tree (layer n)

-- whether two nodes are the same, as `same` says of their trees
abbrev pub same_nodes : Node → Node → Bool
same_nodes n m = same_at (map-Tree Tree (Tree → Bool) same (layer n)) (layer m)
