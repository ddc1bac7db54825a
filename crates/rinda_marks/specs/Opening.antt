-- Whether a tuple opens as a template does. docs/SPACE.md, Matching.
use Rattle.std.specs.Prelude.{Bool, true, false, not, ◌&&◌, ◌||◌, List, [], ◌∷◌, if◌then◌else◌}
use Rattle.drb_tree.specs.declared.Tree.{Tree}
use Rattle.drb_tree.specs.declared.Tree.TheViews.{out-Tree}
use Rattle.drb_tree.specs.declared.Tree.TheOpen.{Tree-F}
use Rattle.drb_tree.specs.Same.{same}
use Rattle.rinda_tuple.specs.declared.tuple.Tuple.{Tuple}
use Rattle.rinda_tuple.specs.declared.tuple.Tuple.TheVariants as tuple
use Rattle.rinda_tuple.specs.declared.tuple.Template.{Template}
use Rattle.rinda_tuple.specs.declared.tuple.Template.TheVariants as template

-- an element fixes its place where it suits only what is the same: it is an integer, a symbol or a text
abbrev pub fixes : Tree-F Tree → Bool
fixes (Tree-F.Int i) = true
fixes (Tree-F.Sym name) = true
fixes (Tree-F.Text text) = true
fixes _ = false

abbrev pub fixes_value : Tree → Bool
fixes_value element = fixes (out-Tree element)

-- the element fixes nothing, or the value is the same
abbrev pub lets : Tree → Tree → Bool
lets element value = not (fixes_value element) || same element value

-- the second element, if there is one, lets the second value be
abbrev pub lets_next : List Tree → List Tree → Bool
lets_next [] values = true
lets_next (element ∷ elements) [] = false
lets_next (element ∷ elements) (value ∷ values) = lets element value

-- where the first element fixes its place the first value is the same, and where the second does too, so is the second
abbrev pub opens_list : List Tree → List Tree → Bool
opens_list [] values = true
opens_list (element ∷ elements) [] = false
opens_list (element ∷ elements) (value ∷ values) =
    if fixes_value element then same element value && lets_next elements values else true

-- the tuple opens as the template does; where either names its values, nothing is asked
abbrev pub opens : Template → Tuple → Bool
opens (template.List elements) (tuple.List values) = opens_list elements values
opens (template.Named pairs) t = true
opens (template.List elements) (tuple.Named pairs) = true
