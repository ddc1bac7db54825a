-- The message of an exception.
use Rattle.std.proofs.Common.{◌≡◌, ℕ, suc, ◌<◌, List, ◌∷◌, length, get_or, drop, true, sym, ◌∙◌, ap, drop-cons}
use Rattle.std.specs.Prelude.{codes, bytes_eq}
use Rattle.drb_tree.specs.declared.Tree.{Tree}
use Rattle.drb_value.specs.declared.Node.{Node}
use Rattle.drb_value.specs.View.{layer, view_of}
use Rattle.rinda_proxy.specs.Lines.{message_in, bytes_in}
use Rattle.rinda_proxy.proofs.Outer.{outer}

-- the field that is looked at has it
pub message_here : (fs : List (List ℕ × Tree)) (i : ℕ) (f : List ℕ × Tree) (n : Node) → i < length fs → f ≡ get_or fs i f → view_of n ≡ f.1 → bytes_eq f.0 (codes "mesg") ≡ true → message_in (drop i fs) ≡ bytes_in (layer n)
message_here fs i f n lt at view is =
    ap message_in (drop-cons fs i f lt ∙ ap (λ q. q ∷ drop (suc i) fs) (sym at)) ∙ rw is (ap bytes_in (sym (outer n f.1 view)))
