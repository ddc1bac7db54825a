-- Symbols and encoding variables: docs/MARSHAL.md, Symbols.
use Rattle.std.specs.Prelude.{ℕ, zero, suc, ◌⊎◌, List, [], ◌∷◌, Bool, ◌&&◌, ◌||◌, ℤ, pos, negsuc, Option, Some, None, slice_get, bytes_eq, nat_le, ◌==◌, if◌then◌else◌}
use Rattle.std.proofs.Common.{inl, inr}
use Rattle.std.specs.Str.{is_utf8}
use Rattle.drb_tree.specs.declared.Code.{Code}
use Rattle.drb_tree.specs.declared.Code.TheVariants.{Binary, Ascii, Utf8}
use Rattle.drb_tree.specs.Same.{all_ascii, same_code}
use Rattle.drb_tree.specs.Sizes.{heavy}
use Rattle.marshal_grammar.specs.declared.kind.Kind.{Kind}
use Rattle.marshal_grammar.specs.declared.kind.Kind.TheVariants as kind
use Rattle.marshal_grammar.specs.declared.refusal.Why.TheVariants as why
use Rattle.marshal_grammar.specs.Kinds.{kind_of}
use Rattle.marshal_grammar.specs.Contexts.{Context, add_symbol}
use Rattle.marshal_grammar.specs.Grammar.{Grammar, gives, refuses, must, byte, long, context, becomes, rounds, ◌>>=◌, ◌>>◌, here, just_read}
use Rattle.marshal_grammar.specs.Counts.{count, string, count_nodes}

-- the symbol of that number
abbrev pub symbol_at : Context → ℤ → Option (List ℕ)
symbol_at c (pos n) = slice_get c.symbols n
symbol_at c (negsuc n) = None

-- the symbol that was found; without one the link at this place has none
abbrev pub some_symbol : ℕ → Option (List ℕ) → Grammar (List ℕ)
some_symbol at None = refuses why.SymbolLink at
some_symbol at (Some s) = gives s

-- after `;`: a long, the number of a symbol
abbrev pub linked_symbol : ℕ → Grammar (List ℕ)
linked_symbol at = do
  n ← long
  c ← context
  some_symbol at (symbol_at c n)

-- after `:`: a length and bytes, which are ASCII; the symbol gets its number as its bytes are read
abbrev pub plain_symbol : ℕ → Grammar (List ℕ)
plain_symbol at = do
  s ← string
  becomes (add_symbol s)
  must (all_ascii s) why.Name at
  gives s

-- a symbol under `I` is ASCII, or UTF-8 where its encoding is
abbrev pub is_name : List ℕ → Code → Bool
is_name s code = all_ascii s || (same_code code Utf8 && is_utf8 s)

-- how many encoding variables follow: none or one
abbrev pub encoding_count : ℕ → Grammar ℕ
encoding_count at = do
  n ← count
  must (nat_le n 1) why.Encoding at
  gives n

-- what the value of `E` says: `T` UTF-8, `F` US-ASCII
abbrev pub code_of : ℕ → Option Code
code_of b =
    if b == 84 then Some Utf8  -- `T`
    else if b == 70 then Some Ascii  -- `F`
    else None

-- the encoding that was found; any other byte is refused
abbrev pub some_code : ℕ → Option Code → Grammar Code
some_code at None = refuses why.Encoding at
some_code at (Some code) = gives code

-- after the name of an encoding variable, which is `E`: its value
abbrev pub encoding_value : ℕ → List ℕ → Grammar Code
encoding_value at e = do
  must (bytes_eq e (69 ∷ [])) why.Encoding at  -- `E`
  b ← byte
  some_code at (code_of b)

-- The symbols under `I` that wait for the symbol `E` of their encoding, the last first:
-- the place and the bytes of each. In the bytes below, the name `ä` waits for an `E` that is
-- under `I` itself and waits for its own, which is a link to it:
--
--     49 3a 07 c3 a4 06    I : ä, one variable; symbol 0, which now waits
--     49 3a 06 45 06       I : E, one variable; symbol 1, which now waits too
--     3b 06                ; the symbol 1, `E`: that of the last that waits
--     54                   T, so that this one, `E`, is UTF-8 and read; it is that of `ä`
--     54                   T, so that `ä` is UTF-8 and read
abbrev pub Waiting : Type 0
Waiting = List (ℕ × List ℕ)

-- a symbol is read; it is the `E` of the last that waits, which then is read too
abbrev pub ended : Waiting → List ℕ → Grammar (Waiting ⊎ List ℕ)
ended [] s = gives (inr s)
ended (w ∷ ws) s = do
  code ← encoding_value w.0 s
  must (is_name w.1 code) why.Name w.0
  ended ws w.1

-- with no encoding variable the symbol is binary, with one it waits for it
abbrev pub waits : ℕ → Waiting → List ℕ → ℕ → Grammar (Waiting ⊎ List ℕ)
waits at ws s zero = do
  must (is_name s Binary) why.Name at
  ended ws s
waits at ws s (suc n) = gives (inl ((at, s) ∷ ws))

-- after `I`, where a symbol must stand: `:`, a length and bytes, and encoding variables;
-- the symbol has its number before its variables are read
abbrev pub marked_round : ℕ → Waiting → Grammar (Waiting ⊎ List ℕ)
marked_round at ws = do
  q ← here
  b ← byte
  must (b == 58) (why.BadType b) q  -- `:`
  s ← string
  becomes (add_symbol s)
  n ← encoding_count at
  waits at ws s n

-- what the first byte of a symbol says
abbrev pub symbol_by : ℕ → Waiting → ℕ → Option Kind → Grammar (Waiting ⊎ List ℕ)
symbol_by at ws b (Some kind.Symbol) = do
  s ← plain_symbol at
  ended ws s
symbol_by at ws b (Some kind.SymbolLink) = do
  s ← linked_symbol at
  ended ws s
symbol_by at ws b (Some kind.Marked) = marked_round at ws
symbol_by at ws b _ = refuses (why.BadType b) at

-- the symbol that begins with the byte b, which was just read
abbrev pub symbol_round : Waiting → ℕ → Grammar (Waiting ⊎ List ℕ)
symbol_round ws b = do
  at ← just_read
  symbol_by at ws b (kind_of b)

-- a symbol: `:`, `;` or `I:`; the `E` of its encoding may be under `I` itself, and so on
unfoldable pub symbol : Grammar (List ℕ)
symbol = rounds symbol_round []

-- a class symbol, or the name of a field or variable: it counts by its bytes at its place
abbrev pub name : Grammar (List ℕ)
name = do
  at ← here
  s ← symbol
  count_nodes at (heavy s)
  gives s

-- no variable, or the symbol `E` and its value
abbrev pub encoding_by : ℕ → ℕ → Grammar Code
encoding_by at zero = gives Binary
encoding_by at (suc n) = do
  e ← symbol
  encoding_value at e

-- encoding variables: none, binary; one, the symbol `E` and `T` or `F`;
-- the symbol `E` counts nothing
abbrev pub encoding : ℕ → Grammar Code
encoding at = do
  n ← encoding_count at
  encoding_by at n

-- after `I:` of a value: a length and bytes, and encoding variables
abbrev pub marked_symbol : ℕ → Grammar (List ℕ)
marked_symbol at = do
  s ← string
  becomes (add_symbol s)
  code ← encoding at
  must (is_name s code) why.Name at
  gives s
