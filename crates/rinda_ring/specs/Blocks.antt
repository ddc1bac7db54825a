-- The block of a lookup, and the front of a server. docs/RING.md, Answers.
use Rattle.std.specs.Prelude.{List, [], ◌∷◌, Option, None, Some}
use Rattle.drb_tree.specs.declared.Code.TheVariants.{Utf8}
use Rattle.drb_tree.specs.declared.Text.{Text}
use Rattle.drb_tree.specs.declared.RefId.TheVariants.{Front}
use Rattle.drb_tree.specs.declared.Remote.{Remote}
use Rattle.drb_tree.specs.declared.Tree.{Tree}
use Rattle.drb_tree.specs.declared.Tree.TheViews.{out-Tree}
use Rattle.drb_tree.specs.declared.Tree.TheOpen.{Tree-F}
use Rattle.drb_tree.specs.Trees.{nil_tree, remote_tree}
use Rattle.rinda_ring.specs.Lookups.{words_of, first_of}

-- the reference of the front of the server at that uri
abbrev pub front : Text → Tree
front uri = remote_tree (record { uri = uri; id = Front })

-- a reference of an empty uri
abbrev pub nobody : Remote
nobody = record { uri = record { bytes = []; code = Utf8 }; id = Front }

-- the reference that a value is; all else names nobody
abbrev pub remote_at : Tree-F Tree → Remote
remote_at (Tree-F.Remote r) = r
remote_at _ = nobody

abbrev pub remote_of : Tree → Remote
remote_of v = remote_at (out-Tree v)

-- the second item, nil where there is none
abbrev pub second_of : List Tree → Tree
second_of [] = nil_tree
second_of (item ∷ items) = first_of items

abbrev pub block_in : Option (List Tree) → Remote
block_in None = nobody
block_in (Some words) = remote_of (second_of words)

-- the block of a lookup that was taken: its second item
abbrev pub block_of : Tree → Remote
block_of v = block_in (words_of v)
