-- When a template matches a tuple. docs/SPACE.md, Matching.
use Rattle.std.specs.Prelude.{Bool, true, false, ◌&&◌, ◌||◌, ◌==◌, List, [], ◌∷◌, length}
use Rattle.drb_tree.specs.declared.Tree.{Tree}
use Rattle.drb_tree.specs.declared.Tree.TheViews.{out-Tree}
use Rattle.drb_tree.specs.declared.Tree.TheOpen.{Tree-F}
use Rattle.drb_tree.specs.Same.{same}
use Rattle.rinda_tuple.specs.declared.tuple.Tuple.{Tuple}
use Rattle.rinda_tuple.specs.declared.tuple.Tuple.TheVariants as tuple
use Rattle.rinda_tuple.specs.declared.tuple.Template.{Template}
use Rattle.rinda_tuple.specs.declared.tuple.Template.TheVariants as template
use Rattle.rinda_tuple.specs.Classes.{is_nil, class_suits}
use Rattle.rinda_tuple.specs.Ranges.{range_suits}

-- a class or module suits what its name suits
abbrev pub name_suits : Tree-F Tree → Tree-F Tree → Bool
name_suits (Tree-F.Class name) x = class_suits name x
name_suits (Tree-F.Module name) x = class_suits name x
name_suits _ x = false

-- an element of a template suits a value: it is nil, or the same, or a class or module that suits it, or a range that does
abbrev pub suits : Tree → Tree → Bool
suits e x =
    is_nil (out-Tree e) || same e x || name_suits (out-Tree e) (out-Tree x)
    || range_suits (out-Tree e) (out-Tree x)

-- Two lists: they are equally long, and each element suits the value in its place.
abbrev pub each_suits : List Tree → List Tree → Bool
each_suits [] [] = true
each_suits (e ∷ es) (x ∷ xs) = suits e x && each_suits es xs
each_suits [] (x ∷ xs) = false
each_suits (e ∷ es) [] = false

-- some pair has the same key, and a value that the element suits
abbrev pub suits_at : Tree → Tree → List (Tree × Tree) → Bool
suits_at key e [] = false
suits_at key e (pair ∷ pairs) = (same key pair.0 && suits e pair.1) || suits_at key e pairs

-- Two hashes: each key of the template is a key of the tuple, and its element suits that key's value.
abbrev pub each_key_suits : List (Tree × Tree) → List (Tree × Tree) → Bool
each_key_suits [] pairs = true
each_key_suits (e ∷ es) pairs = suits_at e.0 e.1 pairs && each_key_suits es pairs

-- A template matches a tuple: both have equally many elements, which suit by their places or by their keys. A list
-- and a hash match where both are empty.
unfoldable pub matches : Template → Tuple → Bool
matches (template.List es) (tuple.List xs) = each_suits es xs
matches (template.Named es) (tuple.Named xs) = (length es == length xs) && each_key_suits es xs
matches (template.List es) (tuple.Named xs) = (length es == 0) && (length xs == 0)
matches (template.Named es) (tuple.List xs) = (length es == 0) && (length xs == 0)
