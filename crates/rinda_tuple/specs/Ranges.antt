-- Ranges: which objects are one, and which values they suit. docs/SPACE.md, Matching.
use Rattle.std.specs.Prelude.{ℕ, Bool, true, false, ◌&&◌, ◌==◌, List, [], ◌∷◌, length, bytes_eq, codes, ℤ, int_lt, int_le, Option, Some, None, if◌then◌else◌}
use Rattle.std.specs.Ordering.{is_lt, is_le, nat_cmp}
use Rattle.std.specs.Cmp.Lexicographic.{slice_cmp}
use Rattle.drb_tree.specs.declared.Tree.{Tree}
use Rattle.drb_tree.specs.declared.Tree.TheViews.{out-Tree}
use Rattle.drb_tree.specs.declared.Tree.TheOpen.{Tree-F}

-- a range: whether it leaves its end out, and its two ends
pub record Range : Type 0 where
  pub excl : Bool
  pub first : Tree
  pub last : Tree

-- the value of the field of that name
abbrev pub field_of : List ℕ → List (List ℕ × Tree) → Option Tree
field_of name [] = None
field_of name (field ∷ fields) = if bytes_eq field.0 name then Some field.1
    else field_of name fields

-- true or false, or neither
abbrev pub truth_at : Tree-F Tree → Option Bool
truth_at (Tree-F.Bool b) = Some b
truth_at _ = None

-- the range with these ends, where it is known whether it leaves its end out
abbrev pub range_to : Option Bool → Tree → Tree → Option Range
range_to None first last = None
range_to (Some excl) first last = Some (record { excl = excl; first = first; last = last })

-- the range with these ends, where the first value is true or false
abbrev pub range_with : Tree-F Tree → Tree → Tree → Option Range
range_with excl first last = range_to (truth_at excl) first last

-- the range with these three fields, where each of them is there
abbrev pub range_from : Option Tree → Option Tree → Option Tree → Option Range
range_from (Some excl) (Some first) (Some last) = range_with (out-Tree excl) first last
range_from (Some excl) (Some first) None = None
range_from (Some excl) None last = None
range_from None first last = None

-- a range is an Object of class `Range` with exactly the fields `excl`, true or false, `begin` and `end`
abbrev pub range_of : Tree-F Tree → Option Range
range_of (Tree-F.Object class fields) =
    if bytes_eq class (codes "Range") && (length fields == 3)
    then range_from (field_of (codes "excl") fields) (field_of (codes "begin") fields)
    (field_of (codes "end") fields)
    else None
range_of _ = None

-- the order of texts: that of their bytes
abbrev pub text_le : List ℕ → List ℕ → Bool
text_le a b = is_le (slice_cmp nat_cmp a b)

abbrev pub text_lt : List ℕ → List ℕ → Bool
text_lt a b = is_lt (slice_cmp nat_cmp a b)

-- an integer is not before that begin: nil sets no bound, and what is no integer lets none in
abbrev pub int_after : Tree-F Tree → ℤ → Bool
int_after Tree-F.Nil x = true
int_after (Tree-F.Int first) x = int_le first x
int_after _ x = false

-- an integer is not past that end, which may be left out itself
abbrev pub int_before : Bool → Tree-F Tree → ℤ → Bool
int_before excl Tree-F.Nil x = true
int_before excl (Tree-F.Int last) x = if excl then int_lt x last else int_le x last
int_before excl _ x = false

-- the same for the bytes of a text
abbrev pub text_after : Tree-F Tree → List ℕ → Bool
text_after Tree-F.Nil x = true
text_after (Tree-F.Text first) x = text_le first.bytes x
text_after _ x = false

abbrev pub text_before : Bool → Tree-F Tree → List ℕ → Bool
text_before excl Tree-F.Nil x = true
text_before excl (Tree-F.Text last) x = if excl then text_lt x last.bytes else text_le x last.bytes
text_before excl _ x = false

-- an integer or a text lies between the ends, and nothing else does
abbrev pub within : Bool → Tree-F Tree → Tree-F Tree → Tree-F Tree → Bool
within excl first last (Tree-F.Int x) = int_after first x && int_before excl last x
within excl first last (Tree-F.Text x) = text_after first x.bytes && text_before excl last x.bytes
within excl first last _ = false

-- where there is a range, the value lies between its ends
abbrev pub in_range : Option Range → Tree-F Tree → Bool
in_range None x = false
in_range (Some r) x = within r.excl (out-Tree r.first) (out-Tree r.last) x

-- the first value is a range that suits the second
abbrev pub range_suits : Tree-F Tree → Tree-F Tree → Bool
range_suits e x = in_range (range_of e) x
