-- The one written spelling of a value: docs/MARSHAL.md, The written spelling.
use Rattle.std.specs.Prelude.{ℕ, zero, suc, ◌+◌, ◌-◌, ◌*◌, ◌/◌, ◌%◌, ◌^◌, List, [], ◌∷◌, ◌++◌, length, ℤ, pos, negsuc, Option, Some, None, bytes_eq, nat_lt, ◌==◌, if◌then◌else◌, position}
use Rattle.drb_tree.specs.declared.Code.{Code}
use Rattle.drb_tree.specs.declared.Code.TheVariants.{Binary, Ascii, Utf8}
use Rattle.drb_tree.specs.declared.RefId.{RefId}
use Rattle.drb_tree.specs.declared.RefId.TheVariants as R
use Rattle.drb_tree.specs.declared.Remote.{Remote}
use Rattle.drb_tree.specs.declared.Tree.{Tree}
use Rattle.drb_tree.specs.declared.Tree.TheOpen.{Tree-F}
use Rattle.drb_tree.specs.declared.Tree.TheFolds.{fold-Tree}
use Rattle.drb_tree.specs.Same.{all_ascii}
use Rattle.drb_tree.specs.Kept.{remote_class}

-- k bytes of a number, the least first
abbrev pub bytes_of : ℕ → ℕ → List ℕ
bytes_of zero n = []
bytes_of (suc k) n = (n % 256) ∷ bytes_of k (n / 256)

-- the fewest bytes, 1 to 4, that hold a number below 2^32
abbrev pub fewest : ℕ → ℕ
fewest n =
    if nat_lt n (256 ^ 1) then 1
    else if nat_lt n (256 ^ 2) then 2
    else if nat_lt n (256 ^ 3) then 3
    else 4

-- the shortest long: 00 for 0, the byte n + 5 for 1 to 122, else the fewest bytes
abbrev pub long_from : ℕ → List ℕ
long_from n =
    if n == 0 then 0 ∷ []
    else if nat_lt n 123 then (n + 5) ∷ []
    else fewest n ∷ bytes_of (fewest n) n

-- the shortest long of -(m + 1): the byte -(m + 1) - 5 down to -123, else the fewest bytes,
-- of the number with 256 for each of them multiplied added
abbrev pub long_below : ℕ → List ℕ
long_below m =
    if nat_lt m 123 then (250 - m) ∷ []
    else (256 - fewest m) ∷ bytes_of (fewest m) (256 ^ fewest m - 1 - m)

-- the shortest long of any number
abbrev pub long_bytes : ℤ → List ℕ
long_bytes (pos n) = long_from n
long_bytes (negsuc m) = long_below m

-- a length and the bytes
abbrev pub string_bytes_of : List ℕ → List ℕ
string_bytes_of s = long_from (length s) ++ s

-- The bytes that are written, and the symbols that have been written so far, from those before.
abbrev pub Writing : Type 0
Writing = List (List ℕ) → List ℕ × List (List ℕ)

-- these bytes, and no symbol
abbrev pub these : List ℕ → Writing
these bs symbols = (bs, symbols)

-- one after the other
infixr 10 ◌then◌
abbrev pub ◌then◌ : Writing → Writing → Writing
(u then w) symbols = let a = u symbols in let b = w a.1 in (a.0 ++ b.0, b.1)

-- with a further symbol
abbrev pub new_symbol : List ℕ → Writing
new_symbol s symbols = ([], symbols ++ (s ∷ []))

-- a symbol that was written before is a link to it, another one is written so
abbrev pub linked_or : Writing → Option ℕ → Writing
linked_or w None = w
linked_or w (Some k) = these (59 ∷ long_from k)  -- `;`

-- a symbol: a link where it was written before, else what w writes
abbrev pub known_or : List ℕ → Writing → Writing
known_or s w symbols = linked_or w (position (λ t. bytes_eq t s) symbols) symbols

-- a symbol of ASCII: `:`, a length and bytes
abbrev pub ascii_symbol : List ℕ → Writing
ascii_symbol s = known_or s (these (58 ∷ string_bytes_of s) then new_symbol s)  -- `:`

-- one encoding variable: a count of 1 (06), the symbol `E` (69) and this byte
abbrev pub encoding_bytes : ℕ → Writing
encoding_bytes b = these (6 ∷ []) then ascii_symbol (69 ∷ []) then these (b ∷ [])

-- a symbol that is not ASCII: `I` (73), `:` (58), and `E` true, `T` (84)
abbrev pub utf8_symbol : List ℕ → Writing
utf8_symbol s =
    known_or s (these (73 ∷ 58 ∷ string_bytes_of s) then new_symbol s then encoding_bytes 84)

-- a symbol: its first occurrence whole, later ones as links
abbrev pub symbol_bytes : List ℕ → Writing
symbol_bytes s = if all_ascii s then ascii_symbol s else utf8_symbol s

-- a text: binary bare, `"` (34); US-ASCII under `I` (73) with `E` false, `F` (70);
-- UTF-8 under `I` with `E` true, `T` (84)
abbrev pub text_bytes : List ℕ → Code → Writing
text_bytes s Binary = these (34 ∷ string_bytes_of s)
text_bytes s Ascii = these (73 ∷ 34 ∷ string_bytes_of s) then encoding_bytes 70
text_bytes s Utf8 = these (73 ∷ 34 ∷ string_bytes_of s) then encoding_bytes 84

-- the fewest 16-bit units, at most k, that hold a number
abbrev pub units : ℕ → ℕ → ℕ
units zero m = 0
units (suc k) m = if m == 0 then 0 else suc (units k (m / 65536))

-- `l` (108), the sign, and the magnitude in the fewest 16-bit units
abbrev pub big_bytes : ℕ → ℕ → List ℕ
big_bytes sign m = let n = units 8 m in 108 ∷ sign ∷ (long_from n ++ bytes_of (2 * n) m)

-- an integer: from -2^30 to 2^30 - 1 as `i` (105), another as `l` with `+` (43) or `-` (45)
abbrev pub int_bytes : ℤ → List ℕ
int_bytes (pos n) = if nat_lt n (2 ^ 30) then 105 ∷ long_from n else big_bytes 43 n
int_bytes (negsuc m) = if nat_lt m (2 ^ 30) then 105 ∷ long_below m else big_bytes 45 (suc m)

-- the id of a remote object, as a value
abbrev pub id_bytes_of : RefId → Writing
id_bytes_of R.Front = these (48 ∷ [])  -- `0`
id_bytes_of (R.Number i) = these (int_bytes i)
id_bytes_of (R.Text t) = text_bytes t.bytes t.code

-- the inner dump of a remote object, with symbols of its own: 04 and 08, `[` (91),
-- the count 2 (07), its uri and its id
abbrev pub remote_bytes : Remote → List ℕ
remote_bytes r =
    ((these (4 ∷ 8 ∷ 91 ∷ 7 ∷ []) then text_bytes r.uri.bytes r.uri.code then id_bytes_of r.id)
    []).0

-- values, one after the other
abbrev pub each_value : List Writing → Writing
each_value [] = these []
each_value (w ∷ ws) = w then each_value ws

-- keys and values, one after the other
abbrev pub each_pair : List (Writing × Writing) → Writing
each_pair [] = these []
each_pair (p ∷ ps) = p.0 then p.1 then each_pair ps

-- names and values, one after the other
abbrev pub each_field : List (List ℕ × Writing) → Writing
each_field [] = these []
each_field (f ∷ fs) = symbol_bytes f.0 then f.1 then each_field fs

-- a hash, without default, `{` (123), or with one, `}` (125)
abbrev pub hash_bytes : List (Writing × Writing) → Option Writing → Writing
hash_bytes ps None = these (123 ∷ long_from (length ps)) then each_pair ps
hash_bytes ps (Some d) = these (125 ∷ long_from (length ps)) then each_pair ps then d

-- a count and so many fields
abbrev pub fields_bytes : List (List ℕ × Writing) → Writing
fields_bytes fs = these (long_from (length fs)) then each_field fs

-- the bytes of a class that dumps itself: as `u` (117) without variables, else as `Iu` (73, 117)
abbrev pub dumped_bytes : List ℕ → List ℕ → List (List ℕ × Writing) → Writing
dumped_bytes c bs [] = these (117 ∷ []) then symbol_bytes c then these (string_bytes_of bs)
dumped_bytes c bs (f ∷ fs) =
    these (73 ∷ 117 ∷ []) then symbol_bytes c then these (string_bytes_of bs)
    then fields_bytes (f ∷ fs)

-- what a value writes, from what its parts write
abbrev pub writing_step : Tree-F Writing → Writing
writing_step Tree-F.Nil = these (48 ∷ [])  -- `0`
writing_step (Tree-F.Bool b) = these ((if b then 84 else 70) ∷ [])  -- `T`, `F`
writing_step (Tree-F.Int i) = these (int_bytes i)
writing_step (Tree-F.Sym s) = symbol_bytes s
writing_step (Tree-F.Text t) = text_bytes t.bytes t.code
writing_step (Tree-F.List ws) = these (91 ∷ long_from (length ws)) then each_value ws  -- `[`
writing_step (Tree-F.Hash ps d) = hash_bytes ps d
writing_step (Tree-F.Class n) = these (99 ∷ string_bytes_of n)  -- `c`
writing_step (Tree-F.Module n) = these (109 ∷ string_bytes_of n)  -- `m`
-- `o`
writing_step (Tree-F.Object c fs) = these (111 ∷ []) then symbol_bytes c then fields_bytes fs
writing_step (Tree-F.Struct c fs) = these (83 ∷ []) then symbol_bytes c then fields_bytes fs  -- `S`
writing_step (Tree-F.Dumped c bs fs) = dumped_bytes c bs fs
writing_step (Tree-F.Wrapped c w) = these (85 ∷ []) then symbol_bytes c then w  -- `U`
writing_step (Tree-F.Remote r) =
    -- `u`
    these (117 ∷ []) then symbol_bytes remote_class then these (string_bytes_of (remote_bytes r))

-- what a value writes
abbrev pub writing : Tree → Writing
writing = fold-Tree Writing writing_step

-- the written spelling of a value, as a dump: the bytes 04 and 08,
-- and what it writes with no symbol written before
abbrev pub spelled : Tree → List ℕ
spelled v = 4 ∷ 8 ∷ (writing v []).0
