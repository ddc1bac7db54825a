-- Sameness, one level at a time.
use Rattle.std.proofs.Common.{◌≡◌, Bool, ap, ◌∙◌}
use Rattle.drb_tree.specs.declared.Tree.{Tree}
use Rattle.drb_tree.specs.declared.Tree.TheViews.{roll-Tree, out-Tree, out-roll-Tree}
use Rattle.drb_tree.specs.declared.Tree.TheOpen.{Tree-F}
use Rattle.drb_tree.specs.declared.Tree.TheFolds.{fold-roll-Tree, map-Tree}
use Rattle.drb_tree.specs.Same.{same, same_at}

pub same_roll : (l m : Tree-F Tree) → same (roll-Tree l) (roll-Tree m) ≡ same_at (map-Tree Tree (Tree → Bool) same l) m
same_roll l m = ap (λ f. f (roll-Tree m)) (fold-roll-Tree (Tree → Bool) (λ l t. same_at l (out-Tree t)) l) ∙ ap (same_at (map-Tree Tree (Tree → Bool) same l)) (out-roll-Tree m)
