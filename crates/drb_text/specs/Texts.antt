-- What a text is read as: docs/TEXT.md, Forms.
use Rattle.std.specs.Prelude.{ℕ, zero, suc, ℤ, ◌+◌, ◌-◌, ◌==◌, ◌||◌, Bool, true, false, List, [], ◌∷◌, length, take, drop, codes, Option, Some, None, Result, Ok, Err, if◌then◌else◌}
use Rattle.std.specs.List.{prefix_len}
use Rattle.std.specs.Char.{is_ascii_digit, is_ascii_uppercase}
use Rattle.drb_tree.specs.declared.Code.TheVariants.{Utf8}
use Rattle.drb_tree.specs.declared.Tree.{Tree}
use Rattle.drb_tree.specs.Kept.{max_depth}
use Rattle.drb_tree.specs.Trees.{nil_tree, bool_tree, int_tree, sym_tree, text_tree, list_tree, class_tree, object_tree, remote_tree}
use Rattle.marshal_grammar.specs.Reading as grammar
use Rattle.marshal_grammar.specs.Dumps.{dump_of}
use Rattle.hex.specs.Hex.{decode_of}
use Rattle.hex.specs.declared.error.FromHexError.{FromHexError}
use Rattle.drb_text.specs.Bytes.{is_hex, is_space}
use Rattle.drb_text.specs.declared.strings.Escape.TheVariants as escape
use Rattle.drb_text.specs.Reading.{Read, stuck, next, read_as, expect, begins, behind_spaces}
use Rattle.drb_text.specs.Numbers.{int}
use Rattle.drb_text.specs.Names.{symbol_name, class_name}
use Rattle.drb_text.specs.Strings.{quoted}
use Rattle.drb_text.specs.References.{reference}

-- a word that stands for one value
abbrev pub word : List ℕ → Tree → List ℕ → Read Tree
word w v bs = read_as (λ _. v) (expect w bs)

-- the range from one integer to another, without its end or with it
abbrev pub range_tree : Bool → ℤ → ℤ → Tree
range_tree excl low high = object_tree (codes "Range")
    ((codes "excl", bool_tree excl) ∷ (codes "begin", int_tree low)
    ∷ (codes "end", int_tree high) ∷ [])

-- behind the two points: a third one where the range is without its end, and the end
abbrev pub range_end : ℤ → List ℕ → Read Tree
range_end low bs =
    if begins 46 bs then read_as (range_tree true low) (int (drop 1 bs))
    else read_as (range_tree false low) (int bs)

-- behind an integer: two points where it begins a range
abbrev pub range_or_int : ℤ → List ℕ → Read Tree
range_or_int low bs =
    if begins 46 bs then next (expect (codes "..") bs) (λ _ rest. range_end low rest)
    else Ok (int_tree low, bs)

-- an integer, or a range
abbrev pub number : List ℕ → Read Tree
number bs = next (int bs) range_or_int

-- the value of bytes that are one dump, with nothing behind it
abbrev pub whole_dump : grammar.Read Tree → Option Tree
whole_dump (Ok (v, d, [])) = Some v
whole_dump (Ok (v, d, b ∷ bs)) = None
whole_dump (Err e) = None

-- the value of hexadecimal digits that are one dump
abbrev pub dump_in : Result (List ℕ) FromHexError → Option Tree
dump_in (Ok bs) = whole_dump (dump_of bs)
dump_in (Err e) = None

-- that value and the bytes behind it; without one, nothing can go on where so many bytes are left
abbrev pub dump_or : Option Tree → ℕ → List ℕ → Read Tree
dump_or (Some v) left rest = Ok (v, rest)
dump_or None left rest = Err left

-- a `#` and hexadecimal digits up to another byte; where they are no dump, nothing can go on with the `#`
unfoldable pub dump : List ℕ → Read Tree
dump bs =
    let rest = drop 1 bs in
    let n = prefix_len is_hex rest in
    dump_or (dump_in (decode_of (take n rest))) (length bs) (drop n rest)

abbrev pub string_tree : List ℕ → Tree
string_tree s = text_tree (record { bytes = s; code = Utf8 })

-- a text of every form but a list
unfoldable pub plain : List ℕ → Read Tree
plain [] = stuck []
plain (b ∷ bs) =
    if b == 110 then word (codes "nil") nil_tree (b ∷ bs)  -- `n`
    else if b == 116 then word (codes "true") (bool_tree true) (b ∷ bs)  -- `t`
    else if b == 102 then word (codes "false") (bool_tree false) (b ∷ bs)  -- `f`
    else if b == 45 || is_ascii_digit b then number (b ∷ bs)  -- `-`
    else if b == 58 then read_as sym_tree (symbol_name bs)  -- `:`
    else if b == 34 then read_as string_tree (quoted escape.Outside bs)  -- `"`
    else if is_ascii_uppercase b then read_as class_tree (class_name (b ∷ bs))
    else if b == 60 then read_as remote_tree (reference bs)  -- `<`
    else if b == 35 then dump (b ∷ bs)  -- `#`
    else stuck (b ∷ bs)

-- with that item in front
abbrev pub with_item : Tree → Read (List Tree) → Read (List Tree)
with_item v (Ok r) = Ok (v ∷ r.0, r.1)
with_item v (Err left) = Err left

-- behind an item and its spaces: `,` and further items, or `]`
abbrev pub items_or_end : (List ℕ → Read (List Tree)) → Tree → List ℕ → Read (List Tree)
items_or_end more v [] = stuck []
items_or_end more v (b ∷ bs) =
    if b == 44 then with_item v (more bs)
    else if b == 93 then Ok (v ∷ [], bs)
    else stuck (b ∷ bs)

-- one item or more, at most n, up to the `]`; spaces may stand round each
abbrev pub item_list : (List ℕ → Read Tree) → ℕ → List ℕ → Read (List Tree)
item_list item zero bs = stuck bs
item_list item (suc n) bs =
    next (item (behind_spaces bs)) (λ v rest.
    items_or_end (item_list item n) v (behind_spaces rest))

-- behind `[`: nothing or items, and `]`; every item takes a byte
abbrev pub list_with : (List ℕ → Read Tree) → List ℕ → Read (List Tree)
list_with item bs = if begins 93 bs then Ok ([], drop 1 bs) else item_list item (length bs + 1) bs

-- a text, with lists down to that depth
unfoldable pub text : ℕ → List ℕ → Read Tree
text zero bs = if begins 91 bs then stuck bs else plain bs
text (suc room) bs =
    if begins 91 bs then read_as list_tree (list_with (text room) (drop 1 bs)) else plain bs

-- the value whose text the word is; or how many bytes are left where nothing can go on
abbrev pub whole : Read Tree → Result Tree ℕ
whole (Ok (v, [])) = Ok v
whole (Ok (v, b ∷ bs)) = Err (suc (length bs))
whole (Err left) = Err left

-- that many bytes from the end, as a place
abbrev pub placed : ℕ → Result Tree ℕ → Result Tree ℕ
placed n (Ok v) = Ok v
placed n (Err left) = Err (n - left)

-- The value whose text the word is; or the place of the first byte with which no text can go on, which is the word's
-- length where the word ends too early. For a dump that is none, and for a list that is too deep, it is the place of
-- the `#` or `[`.
abbrev pub reading : List ℕ → Result Tree ℕ
reading bs = placed (length bs) (whole (text max_depth bs))
