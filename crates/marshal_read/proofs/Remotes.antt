-- Remote objects by the nodes of their uri and id.
use Rattle.std.proofs.Common.{◌≡◌, Option, Result, IfOk, sym, ap, ◌∙◌, subst}
use Rattle.drb_tree.specs.declared.Remote.{Remote}
use Rattle.drb_tree.specs.declared.Tree.{Tree}
use Rattle.drb_tree.specs.declared.Tree.TheOpen.{Tree-F}
use Rattle.drb_tree.specs.declared.Tree.TheViews.{out-Tree, out-roll-Tree}
use Rattle.drb_value.specs.declared.Node.{Node}
use Rattle.drb_value.specs.View.{layer, view_of}
use Rattle.marshal_grammar.specs.Trees.{remote_from}

pub layer_is : (n : Node) (t : Tree) → view_of n ≡ t → layer n ≡ out-Tree t
layer_is n t e = sym (out-roll-Tree (layer n)) ∙ ap out-Tree e

pub layers_are : {E : Type 0} (r : Result (Option Remote) E) (m n : Node) (a b : Tree) → view_of m ≡ a → view_of n ≡ b
    → IfOk r (λ o. o ≡ remote_from (layer m) (layer n)) → IfOk r (λ o. o ≡ remote_from (out-Tree a) (out-Tree b))
layers_are r m n a b e f h =
    let P : Tree-F Tree → Tree-F Tree → Type 0 = λ x y. IfOk r (λ o. o ≡ remote_from x y) in
    subst (λ (y : Tree-F Tree). P (out-Tree a) y) (layer_is n b f) (subst (λ (x : Tree-F Tree). P x (layer n)) (layer_is m a e) h)
