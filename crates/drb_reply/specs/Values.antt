-- The values that a place makes of its own: docs/SESSIONS.md, Replies.
use Rattle.std.specs.Prelude.{ℕ, [], ◌∷◌, pos, codes}
use Rattle.drb_tree.specs.declared.Code.TheVariants.{Utf8}
use Rattle.drb_tree.specs.declared.Text.{Text}
use Rattle.drb_tree.specs.declared.RefId.TheVariants.{Number}
use Rattle.drb_tree.specs.declared.Tree.{Tree}
use Rattle.drb_tree.specs.Trees.{text_tree, list_tree, remote_tree}

-- the reference of the object with that id, of the server at that uri
abbrev pub reference : Text → ℕ → Tree
reference uri id = remote_tree (record { uri = uri; id = Number (pos id) })

-- `["close"]`, the last event of a notifier
abbrev pub close : Tree
close = list_tree (text_tree (record { bytes = codes "close"; code = Utf8 }) ∷ [])
