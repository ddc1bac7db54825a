-- The keys of a tuple or a template that names its values. docs/SPACE.md, Tuples.
use Rattle.std.specs.Prelude.{Bool, List}
use Rattle.std.specs.List.{list_all}
use Rattle.drb_tree.specs.declared.Tree.{Tree}
use Rattle.drb_tree.specs.declared.Tree.TheViews.{out-Tree}
use Rattle.rinda_tuple.specs.Classes.{is_text}

abbrev pub is_text_key : Tree → Bool
is_text_key key = is_text (out-Tree key)

-- every key is a text
abbrev pub all_texts : List (Tree × Tree) → Bool
all_texts pairs = list_all (λ pair. is_text_key pair.0) pairs
