-- The arguments behind the first.
use Rattle.std.specs.Prelude.{◌≡◌, List, [], ◌∷◌, drop, refl}
use Rattle.drb_tree.specs.declared.Tree.{Tree}
use Rattle.drb_dispatch.specs.Calls.{argument}

-- the second argument is the first behind the first
pub second : (args : List Tree) → argument 0 (drop 1 args) ≡ argument 1 args
unfolding argument
second [] = refl
second (a ∷ []) = refl
second (a ∷ b ∷ rest) = refl

-- the third argument is the first behind the second
pub third : (args : List Tree) → argument 0 (drop 1 (drop 1 args)) ≡ argument 2 args
unfolding argument
third [] = refl
third (a ∷ []) = refl
third (a ∷ b ∷ []) = refl
third (a ∷ b ∷ c ∷ rest) = refl
