-- The end of a link, once its object is known.
use Rattle.std.specs.Prelude.{ℕ, nat_le}
use Rattle.drb_tree.specs.declared.Tree.{Tree}
use Rattle.drb_tree.specs.Sizes.{depth, nodes}
use Rattle.marshal_grammar.specs.declared.refusal.Why.TheVariants as why
use Rattle.marshal_grammar.specs.Grammar.{Grammar, gives, must, ◌>>◌}
use Rattle.marshal_grammar.specs.Counts.{count_nodes}

-- the copy fits into the levels that are left, and counts its nodes
abbrev pub counted_copy : ℕ → ℕ → Tree → Grammar Tree
counted_copy room at v = do
  must (nat_le (depth v) room) why.TooDeep at
  count_nodes at (nodes v)
  gives v
