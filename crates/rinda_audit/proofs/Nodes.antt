-- Equal nodes make equal trees, and only they.
use Rattle.std.proofs.Common.{◌≡◌, Bool, sym, ◌∙◌, ap, refl}
use Rattle.std.specs.Prelude.{IsTrue, ◌↔◌}
use Rattle.drb_tree.specs.declared.Tree.{Tree}
use Rattle.drb_tree.specs.declared.Tree.TheViews.{out-Tree, out-roll-Tree}
use Rattle.drb_tree.specs.declared.Tree.TheOpen as T
use Rattle.drb_value.specs.declared.Node.{Node}
use Rattle.drb_value.specs.declared.Node.TheVariants as N
use Rattle.drb_value.specs.View.{layer, view_of}

-- the node that a level of a tree is
abbrev unlayer : T.Tree-F Tree → Node
unlayer T.Tree-F.Nil = N.Nil
unlayer (T.Tree-F.Bool b) = N.Bool b
unlayer (T.Tree-F.Int i) = N.Int i
unlayer (T.Tree-F.Sym s) = N.Sym s
unlayer (T.Tree-F.Text t) = N.Text t
unlayer (T.Tree-F.List vs) = N.List vs
unlayer (T.Tree-F.Hash ps d) = N.Hash (ps, d)
unlayer (T.Tree-F.Class n) = N.Class n
unlayer (T.Tree-F.Module n) = N.Module n
unlayer (T.Tree-F.Object c fs) = N.Object (record { class = c; fields = fs })
unlayer (T.Tree-F.Struct c fs) = N.Struct (record { class = c; fields = fs })
unlayer (T.Tree-F.Dumped c bs fs) = N.Dumped (c, bs, fs)
unlayer (T.Tree-F.Wrapped c t) = N.Wrapped (record { class = c; inner = t })
unlayer (T.Tree-F.Remote r) = N.Remote r

unlayer_layer : (n : Node) → unlayer (layer n) ≡ n
unlayer_layer N.Nil = refl
unlayer_layer (N.Bool b) = refl
unlayer_layer (N.Int i) = refl
unlayer_layer (N.Sym s) = refl
unlayer_layer (N.Text t) = refl
unlayer_layer (N.List vs) = refl
unlayer_layer (N.Hash p) = refl
unlayer_layer (N.Class n) = refl
unlayer_layer (N.Module n) = refl
unlayer_layer (N.Object f) = refl
unlayer_layer (N.Struct f) = refl
unlayer_layer (N.Dumped d) = refl
unlayer_layer (N.Wrapped w) = refl
unlayer_layer (N.Remote r) = refl

abbrev node_of : Tree → Node
node_of t = unlayer (out-Tree t)

node_view : (n : Node) → node_of (view_of n) ≡ n
node_view n = ap unlayer (out-roll-Tree (layer n)) ∙ unlayer_layer n

pub equal_views : (b : Bool) (n m : Node) (t u : Tree) → view_of n ≡ t → view_of m ≡ u → IsTrue b ↔ (n ≡ m) → IsTrue b ↔ (t ≡ u)
equal_views b n m t u e f same =
    (λ h. sym e ∙ ap view_of (same.0 h) ∙ f, λ h. same.1 (sym (node_view n) ∙ ap node_of (e ∙ h ∙ sym f) ∙ node_view m))
