-- Counts and lengths, and the count of nodes: docs/MARSHAL.md, Longs, and Depth and nodes.
use Rattle.std.specs.Prelude.{ℕ, ◌+◌, List, ℤ, pos, negsuc, nat_le}
use Rattle.drb_tree.specs.Kept.{max_nodes, max_pairs}
use Rattle.marshal_grammar.specs.declared.refusal.Why.TheVariants as why
use Rattle.marshal_grammar.specs.Contexts.{add_nodes}
use Rattle.marshal_grammar.specs.Grammar.{Grammar, gives, refuses, must, bytes, long, context, becomes, ◌>>=◌, ◌>>◌, here}

-- a count or length is not negative
abbrev pub not_negative : ℕ → ℤ → Grammar ℕ
not_negative at (pos n) = gives n
not_negative at (negsuc n) = refuses why.Length at

-- a count or length
abbrev pub count : Grammar ℕ
count = do
  at ← here
  n ← long
  not_negative at n

-- a length and so many bytes
abbrev pub string : Grammar (List ℕ)
string = do
  n ← count
  bytes n

-- a count of pairs, fields or variables
abbrev pub pair_count : Grammar ℕ
pair_count = do
  at ← here
  n ← count
  must (nat_le n max_pairs) why.TooManyPairs at
  gives n

-- k nodes more, added at this place
abbrev pub count_nodes : ℕ → ℕ → Grammar (Unit {0})
count_nodes at k = do
  c ← context
  must (nat_le (c.nodes + k) max_nodes) why.TooManyNodes at
  becomes (add_nodes k)
