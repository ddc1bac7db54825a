-- The marks of values, of tuples and of templates. docs/DECISIONS.md, Tables of the space.
use Rattle.std.specs.Prelude.{ℕ, ℤ, Bool, ◌==◌, List, [], ◌∷◌, Option, Some, None, if◌then◌else◌}
use Rattle.std.specs.List.{list_any}
use Rattle.std.specs.Int.{w128, cast_unsigned, to_le_bytes}
use Rattle.drb_tree.specs.declared.Tree.{Tree}
use Rattle.drb_tree.specs.declared.Tree.TheViews.{out-Tree}
use Rattle.drb_tree.specs.declared.Tree.TheOpen.{Tree-F}
use Rattle.rinda_tuple.specs.declared.tuple.Tuple.{Tuple}
use Rattle.rinda_tuple.specs.declared.tuple.Tuple.TheVariants as tuple
use Rattle.rinda_tuple.specs.declared.tuple.Template.{Template}
use Rattle.rinda_tuple.specs.declared.tuple.Template.TheVariants as template
use Rattle.rinda_marks.specs.declared.secret.Secret.{Secret}
use Rattle.rinda_marks.specs.declared.marks.Marks.{Marks}
use Rattle.rinda_marks.specs.Hashes.{hash_of, both}

-- the bytes of an integer
abbrev pub int_bytes : ℤ → List ℕ
int_bytes i = to_le_bytes w128 (cast_unsigned w128 i)

-- the mark of a value, by its outermost part: an integer, a symbol and a text have one
abbrev pub mark_at : Secret → Tree-F Tree → Option ℕ
mark_at secret (Tree-F.Int i) = Some (hash_of secret 0 (int_bytes i))
mark_at secret (Tree-F.Sym name) = Some (hash_of secret 1 name)
mark_at secret (Tree-F.Text text) = Some (hash_of secret 2 text.bytes)
mark_at secret _ = None

abbrev pub mark_of : Secret → Tree → Option ℕ
mark_of secret value = mark_at secret (out-Tree value)

abbrev pub no_marks : Marks
no_marks = record { first = None; second = None }

-- the mark of two values together, from theirs, where it is not that of the first again
abbrev pub second_mark : ℕ → Option ℕ → Option ℕ
second_mark first None = None
second_mark first (Some next) = if both first next == first then None else Some (both first next)

abbrev pub next_mark : Secret → ℕ → List Tree → Option ℕ
next_mark secret first [] = None
next_mark secret first (value ∷ rest) = second_mark first (mark_of secret value)

-- the marks of the first value and of the first two, where the mark of the first is known
abbrev pub marks_from : Secret → Option ℕ → List Tree → Marks
marks_from secret None rest = no_marks
marks_from secret (Some first) rest = record {
  first = Some first;
  second = next_mark secret first rest;
}

abbrev pub front_marks : Secret → List Tree → Marks
front_marks secret [] = no_marks
front_marks secret (value ∷ rest) = marks_from secret (mark_of secret value) rest

-- the marks of a tuple; one whose values are named has none
abbrev pub marks_of : Secret → Tuple → Marks
marks_of secret (tuple.List items) = front_marks secret items
marks_of secret (tuple.Named pairs) = no_marks

-- the marks that a template asks for, since it fixes those values
abbrev pub fixed_by : Secret → Template → Marks
fixed_by secret (template.List elements) = front_marks secret elements
fixed_by secret (template.Named pairs) = no_marks

-- the mark that says most
abbrev pub best_of : Option ℕ → Option ℕ → Option ℕ
best_of first None = first
best_of first (Some second) = Some second

abbrev pub best : Marks → Option ℕ
best marks = best_of marks.first marks.second

-- the marks as a list
abbrev pub listed : Option ℕ → Option ℕ → List ℕ
listed None second = []
listed (Some first) None = first ∷ []
listed (Some first) (Some second) = first ∷ second ∷ []

abbrev pub mark_list : Marks → List ℕ
mark_list marks = listed marks.first marks.second

-- it is one of the marks
abbrev pub has_mark : ℕ → Marks → Bool
has_mark mark marks = list_any (λ m. m == mark) (mark_list marks)
