-- What a value is as a tuple or a template, and which value a tuple is. docs/SPACE.md, Tuples.
use Rattle.std.specs.Prelude.{List, None, if◌then◌else◌}
use Rattle.drb_tree.specs.declared.Tree.{Tree}
use Rattle.drb_tree.specs.declared.Tree.TheViews.{out-Tree}
use Rattle.drb_tree.specs.declared.Tree.TheOpen.{Tree-F}
use Rattle.drb_tree.specs.Trees.{list_tree, hash_tree}
use Rattle.rinda_tuple.specs.declared.tuple.Tuple.{Tuple}
use Rattle.rinda_tuple.specs.declared.tuple.Tuple.TheVariants as tuple
use Rattle.rinda_tuple.specs.declared.tuple.Template.{Template}
use Rattle.rinda_tuple.specs.declared.tuple.Template.TheVariants as template
use Rattle.rinda_tuple.specs.declared.tuple.WhyNotTuple.{WhyNotTuple}
use Rattle.rinda_tuple.specs.declared.tuple.WhyNotTuple.TheVariants.{NotAList, BadKey}
use Rattle.rinda_tuple.specs.Keys.{all_texts}

-- What a value holds as a tuple: the items of a list; the pairs of a hash whose keys are all texts; or nothing, since a
-- key is no text, or since the value is neither a list nor a hash.
pub data Parts : Type 0 where
  Items : List Tree → Parts
  Pairs : List (Tree × Tree) → Parts
  OtherKey : Parts
  Other : Parts

-- the parts of a value, by its outermost part; a hash's default is no part
abbrev pub parts_at : Tree-F Tree → Parts
parts_at (Tree-F.List items) = Items items
parts_at (Tree-F.Hash pairs default) = if all_texts pairs then Pairs pairs else OtherKey
parts_at _ = Other

abbrev pub parts_of : Tree → Parts
parts_of v = parts_at (out-Tree v)

-- the parts of a tuple, and those of a template
abbrev pub tuple_parts : Tuple → Parts
tuple_parts (tuple.List items) = Items items
tuple_parts (tuple.Named pairs) = Pairs pairs

abbrev pub template_parts : Template → Parts
template_parts (template.List items) = Items items
template_parts (template.Named pairs) = Pairs pairs

-- the parts of a value that is refused for that reason
abbrev pub refused_parts : WhyNotTuple → Parts
refused_parts NotAList = Other
refused_parts BadKey = OtherKey

-- a tuple as the value that a caller sees: a list, or a hash without default
unfoldable pub value_of : Tuple → Tree
value_of (tuple.List items) = list_tree items
value_of (tuple.Named pairs) = hash_tree pairs None
