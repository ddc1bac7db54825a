-- What is proved of marks.
use Rattle.std.specs.Prelude.{◌≡◌, IsTrue, Some, IfSome}
use Rattle.drb_tree.specs.declared.Tree.{Tree}
use Rattle.drb_tree.specs.Same.{same}
use Rattle.rinda_tuple.specs.declared.tuple.Tuple.{Tuple}
use Rattle.rinda_tuple.specs.declared.tuple.Template.{Template}
use Rattle.rinda_tuple.specs.Matching.{matches}
use Rattle.rinda_marks.specs.declared.secret.Secret.{Secret}
use Rattle.rinda_marks.specs.declared.marks.Marks.{Marks}
use Rattle.rinda_marks.specs.Marks.{mark_of, marks_of, fixed_by, best, has_mark}
use Rattle.rinda_marks.specs.Opening.{opens}

-- values that are the same have the same mark, or none
abbrev pub SameMarks : Type 0
SameMarks = (secret : Secret) (a b : Tree) → IsTrue (same a b) →
    mark_of secret a ≡ mark_of secret b

-- the first has each mark, at its place, that the second has
pub record Has (marks asked : Marks) : Type 0 where
  pub first : IfSome asked.first (λ m. marks.first ≡ Some m)
  pub second : IfSome asked.second (λ m. marks.second ≡ Some m)

-- a tuple has the marks that a template asks for that matches it
abbrev pub MatchedHas : Type 0
MatchedHas = (secret : Secret) (t : Template) (u : Tuple) → IsTrue (matches t u) →
    Has (marks_of secret u) (fixed_by secret t)

-- the best mark that such a template asks for, if it asks for one, is one of the tuple's
abbrev pub MatchedHasBest : Type 0
MatchedHasBest = (secret : Secret) (t : Template) (u : Tuple) → IsTrue (matches t u) →
    IfSome (best (fixed_by secret t)) (λ m. IsTrue (has_mark m (marks_of secret u)))

-- a tuple opens as each template does that matches it
abbrev pub MatchedOpens : Type 0
MatchedOpens = (t : Template) (u : Tuple) → IsTrue (matches t u) → IsTrue (opens t u)
