-- Events that were given back, as a list.
use Rattle.std.specs.Prelude.{Bool, true, false, List, [], ◌∷◌}
use Rattle.drb_tree.specs.declared.Tree.{Tree}
use Rattle.rinda_notify.specs.declared.chain.Link.{Link}
use Rattle.rinda_notify.specs.declared.chain.Link.TheVariants.{End, More'}

abbrev pub events_of : Link → List Tree
events_of End = []
events_of (More' event p link) = event ∷ events_of link

abbrev pub is_none : List Tree → Bool
is_none [] = true
is_none (event ∷ events) = false
