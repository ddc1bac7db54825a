-- The values of rows by their ids.
use Rattle.std.specs.Prelude.{ℕ, List, [], ◌∷◌, ◌++◌, Option, Some, None}
use Rattle.drb_tree.specs.declared.Tree.{Tree}
use Rattle.rinda_tuple.specs.Tuples.{value_of}
use Rattle.rinda_rules.specs.declared.plain.Entry.{Entry}
use Rattle.rinda_rules.specs.Rows.{row_of}

-- the value of a tuple, if it is there
abbrev pub value_in : Option Entry → List Tree
value_in None = []
value_in (Some t) = value_of t.value ∷ []

-- the values of the tuples with these ids, one after the other
abbrev pub values_at : List Entry → List ℕ → List Tree
values_at rows [] = []
values_at rows (id ∷ ids) = value_in (row_of (λ t. t.id) id rows) ++ values_at rows ids
