-- What the parts of a value are taken for.
use Rattle.std.specs.Prelude.{◌≡◌, Result, Ok, Err, refl}
use Rattle.std.proofs.Common.{◌∙◌, ap}
use Rattle.drb_tree.specs.declared.Tree.{Tree}
use Rattle.rinda_tuple.specs.declared.tuple.Tuple.{Tuple}
use Rattle.rinda_tuple.specs.declared.tuple.Tuple.TheVariants as tuple
use Rattle.rinda_tuple.specs.declared.tuple.Template.{Template}
use Rattle.rinda_tuple.specs.declared.tuple.Template.TheVariants as template
use Rattle.rinda_tuple.specs.declared.tuple.WhyNotTuple.{WhyNotTuple}
use Rattle.rinda_tuple.specs.declared.tuple.WhyNotTuple.TheVariants.{NotAList, BadKey}
use Rattle.rinda_tuple.specs.Tuples.{parts_of, tuple_parts, template_parts, refused_parts}
use Rattle.drb_dispatch.specs.Checks.{tuple_from, template_from, not_a_tuple, tuple_of, template_of}

tuple_from-tuple_parts : (t : Tuple) → tuple_from (tuple_parts t) ≡ Ok t
tuple_from-tuple_parts (tuple.List items) = refl
tuple_from-tuple_parts (tuple.Named pairs) = refl

tuple_from-refused_parts : (w : WhyNotTuple) → tuple_from (refused_parts w) ≡ Err (not_a_tuple w)
tuple_from-refused_parts NotAList = refl
tuple_from-refused_parts BadKey = refl

template_from-template_parts : (t : Template) → template_from (template_parts t) ≡ Ok t
template_from-template_parts (template.List items) = refl
template_from-template_parts (template.Named pairs) = refl

template_from-refused_parts : (w : WhyNotTuple)
    → template_from (refused_parts w) ≡ Err (not_a_tuple w)
template_from-refused_parts NotAList = refl
template_from-refused_parts BadKey = refl

-- a value with the parts of a tuple is taken for that tuple
pub tuple_taken : (v : Tree) (t : Tuple) → parts_of v ≡ tuple_parts t → tuple_of v ≡ Ok t
unfolding tuple_of
tuple_taken v t e = ap tuple_from e ∙ tuple_from-tuple_parts t

-- a value that is refused as a tuple fails the check of that reason
pub tuple_refused : (v : Tree) (w : WhyNotTuple)
    → parts_of v ≡ refused_parts w → tuple_of v ≡ Err (not_a_tuple w)
unfolding tuple_of
tuple_refused v w e = ap tuple_from e ∙ tuple_from-refused_parts w

-- a value with the parts of a template is taken for that template
pub template_taken : (v : Tree) (t : Template)
    → parts_of v ≡ template_parts t → template_of v ≡ Ok t
unfolding template_of
template_taken v t e = ap template_from e ∙ template_from-template_parts t

-- a value that is refused as a template fails the check of that reason
pub template_refused : (v : Tree) (w : WhyNotTuple)
    → parts_of v ≡ refused_parts w → template_of v ≡ Err (not_a_tuple w)
unfolding template_of
template_refused v w e = ap template_from e ∙ template_from-refused_parts w
