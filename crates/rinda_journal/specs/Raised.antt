-- Whether a value is an event of the rules, as a test.
use Rattle.std.specs.Prelude.{ℕ, Bool, true, false, ◌&&◌, ◌||◌, List, [], ◌∷◌, None, codes, bytes_eq}
use Rattle.drb_tree.specs.declared.Code.{Code}
use Rattle.drb_tree.specs.declared.Code.TheVariants.{Utf8}
use Rattle.drb_tree.specs.declared.Tree.{Tree}
use Rattle.drb_tree.specs.declared.Tree.TheViews.{out-Tree}
use Rattle.drb_tree.specs.declared.Tree.TheOpen.{Tree-F}
use Rattle.rinda_tuple.specs.Keys.{all_texts}

-- the name of something that happens to tuples
abbrev pub is_happening : List ℕ → Bool
is_happening name =
    bytes_eq name (codes "write") || (bytes_eq name (codes "take") || bytes_eq name (codes "delete"))

abbrev pub is_utf8 : Code → Bool
is_utf8 Utf8 = true
is_utf8 _ = false

-- such a name, as a text
abbrev pub is_name : Tree-F Tree → Bool
is_name (Tree-F.Text t) = is_utf8 t.code && is_happening t.bytes
is_name _ = false

-- a tuple as a caller sees it: a list, or a hash without default whose keys are texts
abbrev pub is_tuple : Tree-F Tree → Bool
is_tuple (Tree-F.List items) = true
is_tuple (Tree-F.Hash pairs None) = all_texts pairs
is_tuple _ = false

-- a list of a name and a tuple
abbrev pub is_event : Tree-F Tree → Bool
is_event (Tree-F.List (what ∷ tuple ∷ [])) = is_name (out-Tree what) && is_tuple (out-Tree tuple)
is_event _ = false
