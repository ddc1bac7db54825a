-- The text of a value: docs/TEXT.md, Showing.
use Rattle.std.specs.Prelude.{ℕ, ℤ, ◌/◌, ◌%◌, ◌&&◌, ◌||◌, ◌==◌, Bool, true, false, List, [], ◌∷◌, ◌++◌, length, map, codes, bytes_eq, Option, Some, None, max, nat_lt, if◌then◌else◌}
use Rattle.std.specs.Char.{digit_char}
use Rattle.std.specs.Fmt.{signed_decimal}
use Rattle.std.specs.List.{list_all}
use Rattle.hex.specs.Hex.{encode_lower}
use Rattle.drb_tree.specs.declared.Code.{Code}
use Rattle.drb_tree.specs.declared.Code.TheVariants.{Binary, Ascii, Utf8}
use Rattle.drb_tree.specs.declared.RefId.{RefId}
use Rattle.drb_tree.specs.declared.RefId.TheVariants as R
use Rattle.drb_tree.specs.declared.Remote.{Remote}
use Rattle.drb_tree.specs.declared.Tree.{Tree}
use Rattle.drb_tree.specs.declared.Tree.TheViews.{out-Tree}
use Rattle.drb_tree.specs.declared.Tree.TheOpen.{Tree-F}
use Rattle.drb_tree.specs.declared.Tree.TheFolds.{fold-Tree}
use Rattle.marshal_grammar.specs.Spelled.{spelled}
use Rattle.drb_text.specs.Bytes.{is_plain, is_uri}
use Rattle.drb_text.specs.Names.{symbol_name, class_name, is_whole}

-- a byte of a text: itself, behind `\`, or as `\x` and two digits
abbrev pub escaped : ℕ → List ℕ
escaped b =
    if b == 34 || b == 92 then 92 ∷ b ∷ []
    else if is_plain b then b ∷ []
    else 92 ∷ 120 ∷ digit_char (b / 16) ∷ digit_char (b % 16) ∷ []

abbrev pub each_escaped : List ℕ → List ℕ
each_escaped [] = []
each_escaped (b ∷ bs) = escaped b ++ each_escaped bs

-- a text in UTF-8, in quotes
abbrev pub string_text : List ℕ → Code → Option (List ℕ)
string_text s Utf8 = Some (34 ∷ (each_escaped s ++ (34 ∷ [])))
string_text s Ascii = None
string_text s Binary = None

-- a symbol that has a name which can be written behind `:`
abbrev pub symbol_text : List ℕ → Option (List ℕ)
symbol_text s = if is_whole (symbol_name s) then Some (58 ∷ s) else None

-- a class that has a name as Ruby's classes have
abbrev pub class_text : List ℕ → Option (List ℕ)
class_text n = if is_whole (class_name n) then Some n else None

-- a range of integers, without its end or with it
abbrev pub points : Bool → List ℕ
points true = codes "..."
points false = codes ".."

abbrev pub range_of : Tree-F Tree → Tree-F Tree → Tree-F Tree → Option (List ℕ)
range_of (Tree-F.Bool excl) (Tree-F.Int low) (Tree-F.Int high) =
    Some (signed_decimal low ++ (points excl ++ signed_decimal high))
range_of _ _ _ = None

-- the fields of an Object of class `Range`
abbrev pub range_fields : List (List ℕ × Tree) → Option (List ℕ)
range_fields ((a, x) ∷ (b, y) ∷ (c, z) ∷ []) =
    if bytes_eq a (codes "excl") && (bytes_eq b (codes "begin") && bytes_eq c (codes "end"))
    then range_of (out-Tree x) (out-Tree y) (out-Tree z) else None
range_fields _ = None

abbrev pub range_text : List ℕ → List (List ℕ × Tree) → Option (List ℕ)
range_text c fs = if bytes_eq c (codes "Range") then range_fields fs else None

-- the number of a remote object, or `nil` for the front
abbrev pub number_text : Option ℤ → List ℕ
number_text None = codes "nil"
number_text (Some i) = signed_decimal i

-- the id of a reference, where it is no text
abbrev pub id_text : RefId → Option (List ℕ)
id_text R.Front = Some (number_text None)
id_text (R.Number i) = Some (number_text (Some i))
id_text (R.Text t) = None

abbrev pub is_utf8_code : Code → Bool
is_utf8_code Utf8 = true
is_utf8_code Ascii = false
is_utf8_code Binary = false

abbrev pub angled : List ℕ → Option (List ℕ) → Option (List ℕ)
angled uri None = None
angled uri (Some i) = Some (60 ∷ (uri ++ (32 ∷ (i ++ (62 ∷ [])))))

-- a reference, where its uri is such a text and its id is no text
abbrev pub remote_text : Remote → Option (List ℕ)
remote_text r = if is_utf8_code r.uri.code && list_all is_uri r.uri.bytes
    then angled r.uri.bytes (id_text r.id) else None

-- the text of a value that is neither a list nor written as a dump; None: it is
abbrev pub plain_text : Tree-F Tree → Option (List ℕ)
plain_text Tree-F.Nil = Some (codes "nil")
plain_text (Tree-F.Bool true) = Some (codes "true")
plain_text (Tree-F.Bool false) = Some (codes "false")
plain_text (Tree-F.Int i) = Some (signed_decimal i)
plain_text (Tree-F.Sym s) = symbol_text s
plain_text (Tree-F.Text t) = string_text t.bytes t.code
plain_text (Tree-F.Class n) = class_text n
plain_text (Tree-F.Object c fs) = range_text c fs
plain_text (Tree-F.Remote r) = remote_text r
plain_text _ = None

-- A piece of a text, and how long the longest dump in it is, 0 without one.
pub record Piece : Type 0 where
  pub text : List ℕ
  pub longest : ℕ

-- a piece without a dump
abbrev pub piece : List ℕ → Piece
piece t = record { text = t; longest = 0 }

-- one piece behind the other
infixr 10 ◌then◌
abbrev pub ◌then◌ : Piece → Piece → Piece
p then q = record { text = p.text ++ q.text; longest = max p.longest q.longest }

-- `#` and the written spelling, in hexadecimal
abbrev pub dump_piece : Tree → Piece
dump_piece v = record { text = 35 ∷ encode_lower (spelled v); longest = length (spelled v) }

-- a value that has a text of its own, and another one
abbrev pub plain_or_dump : Tree → Option (List ℕ) → Piece
plain_or_dump v (Some t) = piece t
plain_or_dump v None = dump_piece v

-- each behind `, `
abbrev pub behind_commas : List Piece → Piece
behind_commas [] = piece []
behind_commas (p ∷ ps) = piece (codes ", ") then p then behind_commas ps

-- with `, ` between them
abbrev pub separated : List Piece → Piece
separated [] = piece []
separated (p ∷ ps) = p then behind_commas ps

-- in brackets, with `, ` between them
abbrev pub bracketed : List Piece → Piece
bracketed ps = piece (codes "[") then separated ps then piece (codes "]")

-- Of a value that is shown, the parts are given below as ways to show them: a part's way says how a value is shown
-- which is that part.
abbrev pub each_shown : List (Tree → Piece) → List Tree → List Piece
each_shown [] ts = []
each_shown (f ∷ fs) [] = []
each_shown (f ∷ fs) (t ∷ ts) = f t ∷ each_shown fs ts

-- a list in brackets, whatever is in it; every other value by its own text, or by its dump
abbrev pub shown_at : Tree → Tree-F Tree → Tree-F (Tree → Piece) → Piece
shown_at t (Tree-F.List ts) (Tree-F.List fs) = bracketed (each_shown fs ts)
shown_at t l parts = plain_or_dump t (plain_text l)

-- how a value is shown, by its parts
abbrev pub showing_step : Tree-F (Tree → Piece) → Tree → Piece
showing_step parts t = shown_at t (out-Tree t) parts

-- how a value is shown
unfoldable pub showing : Tree → Piece
showing t = fold-Tree (Tree → Piece) showing_step t t

-- the text of a value
abbrev pub shown : Tree → List ℕ
shown v = (showing v).text

-- how long the longest dump in the text of a value is, 0 without one
abbrev pub longest : Tree → ℕ
longest v = (showing v).longest
