-- How large a value is: docs/MARSHAL.md, Depth and nodes.
use Rattle.std.specs.Prelude.{ℕ, ◌+◌, ◌/◌, max, List, [], ◌∷◌, length, map, Option, None, Some, option_map}
use Rattle.drb_tree.specs.declared.RefId.{RefId}
use Rattle.drb_tree.specs.declared.RefId.TheVariants as R
use Rattle.drb_tree.specs.declared.Remote.{Remote}
use Rattle.drb_tree.specs.declared.Tree.{Tree}
use Rattle.drb_tree.specs.declared.Tree.TheOpen.{Tree-F}
use Rattle.drb_tree.specs.declared.Tree.TheFolds.{fold-Tree}

-- the greatest number
abbrev pub most : List ℕ → ℕ
most [] = 0
most (n ∷ ns) = max n (most ns)

-- the greatest number of all keys and values
abbrev pub most_pairs : List (ℕ × ℕ) → ℕ
most_pairs [] = 0
most_pairs (n ∷ ns) = max (max n.0 n.1) (most_pairs ns)

-- the greatest number of all fields
abbrev pub most_fields : List (List ℕ × ℕ) → ℕ
most_fields [] = 0
most_fields (n ∷ ns) = max n.1 (most_fields ns)

-- the number, or 0 where there is none
abbrev pub some_or_0 : Option ℕ → ℕ
some_or_0 None = 0
some_or_0 (Some n) = n

-- a value's depth from those of its parts: 1, or one more than the deepest part
abbrev pub depth_step : Tree-F ℕ → ℕ
depth_step (Tree-F.List ns) = most ns + 1
depth_step (Tree-F.Hash ps d) = max (most_pairs ps) (some_or_0 d) + 1
depth_step (Tree-F.Object c fs) = most_fields fs + 1
depth_step (Tree-F.Struct c fs) = most_fields fs + 1
depth_step (Tree-F.Dumped c bs fs) = most_fields fs + 1
depth_step (Tree-F.Wrapped c n) = n + 1
depth_step _ = 1

-- how deep a value is
abbrev pub depth : Tree → ℕ
depth = fold-Tree ℕ depth_step

-- the depth of the deepest part of a hash, its default included
abbrev pub pairs_depth : List (Tree × Tree) × Option Tree → ℕ
pairs_depth p =
    max (most_pairs (map (λ q. (depth q.0, depth q.1)) p.0)) (some_or_0 (option_map depth p.1))

-- the depth of the deepest field
abbrev pub fields_depth : List (List ℕ × Tree) → ℕ
fields_depth fs = most_fields (map (λ p. (p.0, depth p.1)) fs)

-- what something with these bytes counts: 1, and 1 more for every 256 bytes
abbrev pub heavy : List ℕ → ℕ
heavy bs = 1 + length bs / 256

-- the sum
abbrev pub total : List ℕ → ℕ
total [] = 0
total (n ∷ ns) = n + total ns

-- the sum over keys and values
abbrev pub total_pairs : List (ℕ × ℕ) → ℕ
total_pairs [] = 0
total_pairs (p ∷ ps) = p.0 + p.1 + total_pairs ps

-- the sum over fields, of what each name and each value counts
abbrev pub total_fields : List (List ℕ × ℕ) → ℕ
total_fields [] = 0
total_fields (f ∷ fs) = heavy f.0 + f.1 + total_fields fs

-- the bytes of a text id
abbrev pub id_bytes : RefId → List ℕ
id_bytes R.Front = []
id_bytes (R.Number i) = []
id_bytes (R.Text t) = t.bytes

-- what a remote object counts: 1 for its class symbol, 1 for itself,
-- and 1 more for every 256 bytes of its uri and text id together
abbrev pub remote_nodes : Remote → ℕ
remote_nodes r = 1 + (1 + (length r.uri.bytes + length (id_bytes r.id)) / 256)

-- what a value counts, from what its parts count;
-- a class symbol and a name count as a value with these bytes does
abbrev pub nodes_step : Tree-F ℕ → ℕ
nodes_step Tree-F.Nil = 1
nodes_step (Tree-F.Bool b) = 1
nodes_step (Tree-F.Int i) = 1
nodes_step (Tree-F.Sym s) = heavy s
nodes_step (Tree-F.Text t) = heavy t.bytes
nodes_step (Tree-F.List ns) = 1 + total ns
nodes_step (Tree-F.Hash ps d) = 1 + total_pairs ps + some_or_0 d
nodes_step (Tree-F.Class n) = heavy n
nodes_step (Tree-F.Module n) = heavy n
nodes_step (Tree-F.Object c fs) = 1 + heavy c + total_fields fs
nodes_step (Tree-F.Struct c fs) = 1 + heavy c + total_fields fs
nodes_step (Tree-F.Dumped c bs fs) = heavy c + heavy bs + total_fields fs
nodes_step (Tree-F.Wrapped c n) = 1 + heavy c + n
nodes_step (Tree-F.Remote r) = remote_nodes r

-- how many nodes a value counts
abbrev pub nodes : Tree → ℕ
nodes = fold-Tree ℕ nodes_step
