-- A value that was read, by its node.
use Rattle.std.proofs.Common.{◌≡◌, ℕ, List, sym, ◌∙◌, ap, subst}
use Rattle.std.specs.Prelude.{Ok}
use Rattle.std.specs.declared.option.Option.{Option}
use Rattle.std.specs.declared.result.Result.{Result}
use Rattle.drb_tree.specs.declared.Tree.{Tree}
use Rattle.drb_tree.specs.declared.Tree.TheViews.{out-Tree, out-roll-Tree}
use Rattle.drb_tree.specs.declared.Tree.TheOpen.{Tree-F}
use Rattle.drb_value.specs.declared.Node.{Node}
use Rattle.drb_value.specs.View.{layer, view_of}
use Rattle.drb_outside.specs.Records.{Record}
use Rattle.drb_outside.specs.Changes.{ChangesBytes}
use Rattle.drb_packet.specs.declared.stop.Stop.{Stop}
use Rattle.drb_packet.specs.Parsers.{Parser, ◌>>=◌}
use Rattle.drb_packet.specs.Reads.{Parses, Judges}
use Rattle.drb_packet.proofs.Steps.{changes_judged}

pub layer_is : (n : Node) (t : Tree) → view_of n ≡ t → layer n ≡ out-Tree t
layer_is n t e = sym (out-roll-Tree (layer n)) ∙ ap out-Tree e

pub changes_node : {B : Type 0} {X : Type 0} {t : X → Option (List ℕ)} {k : X → List Record} {h f : X → ℕ} {a b : X} (p : Parser Tree) (g : Tree-F Tree → Parser B) (n : Node) (v : Tree) (r : Result B Stop) → view_of n ≡ v → ChangesBytes t k h f a b (Parses p (Ok v)) → Judges (g (layer n)) r → ChangesBytes t k h f a b (Parses (p >>= (λ w. g (out-Tree w))) r)
changes_node p g n v r is s j = changes_judged p (λ w. g (out-Tree w)) v r s (subst (λ (q : Tree-F Tree). Judges (g q) r) (layer_is n v is) j)
