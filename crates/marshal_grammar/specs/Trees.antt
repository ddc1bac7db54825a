-- The trees of values by the names that the grammar has for them, and the remote object that a list stands for.
use Rattle.std.specs.Prelude.{ℕ, List, [], ◌∷◌, Option, Some, None}
use Rattle.drb_tree.specs.declared.Code.{Code}
use Rattle.drb_tree.specs.declared.Text.{Text}
use Rattle.drb_tree.specs.declared.RefId.{RefId}
use Rattle.drb_tree.specs.declared.RefId.TheVariants as R
use Rattle.drb_tree.specs.declared.Remote.{Remote}
use Rattle.drb_tree.specs.declared.Tree.{Tree}
use Rattle.drb_tree.specs.declared.Tree.TheViews.{out-Tree}
use Rattle.drb_tree.specs.declared.Tree.TheOpen.{Tree-F}
use Rattle.drb_tree.specs.Trees.{text_tree}
pub use Rattle.drb_tree.specs.Trees.{nil_tree as nil, bool_tree as bool, int_tree as int, sym_tree as sym, list_tree as list, hash_tree as hash, class_tree as class, module_tree as module_named, object_tree as object, struct_tree as structure, dumped_tree as dumped, wrapped_tree as wrapped, remote_tree as remote}

-- a text of these bytes with this encoding
abbrev pub text : List ℕ → Code → Tree
text s code = text_tree (record { bytes = s; code = code })

-- the id of a remote object that a value stands for: nil, an Int or a Text
abbrev pub id_of : Tree-F Tree → Option RefId
id_of Tree-F.Nil = Some R.Front
id_of (Tree-F.Int n) = Some (R.Number n)
id_of (Tree-F.Text t) = Some (R.Text t)
id_of _ = None

-- a remote object of this uri, where there is an id
abbrev pub with_id : Text → Option RefId → Option Remote
with_id uri None = None
with_id uri (Some id) = Some (record { uri = uri; id = id })

-- a remote object of a uri and an id, where they are such
abbrev pub remote_from : Tree-F Tree → Tree-F Tree → Option Remote
remote_from (Tree-F.Text uri) b = with_id uri (id_of b)
remote_from _ b = None

-- the remote object that a list of two stands for, a Text (the uri) and a nil, Int or Text (the id)
abbrev pub remote_of : Tree-F Tree → Option Remote
remote_of (Tree-F.List (a ∷ b ∷ [])) = remote_from (out-Tree a) (out-Tree b)
remote_of _ = None
