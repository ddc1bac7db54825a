-- What is written of a count, a string, a symbol and an encoding is read again, whatever follows.
use Rattle.std.proofs.Common.{◌≡◌, ℕ, ◌+◌, ◌-◌, ◌*◌, ◌^◌, ◌<◌, ◌≤◌, inl, pos, List, [], ◌∷◌, ◌++◌, length, Option, Some, None, Ok, Bool, true, false, refl, ap, ◌∙◌, arith, length-append, append_assoc, slice_get}
use Rattle.std.specs.Prelude.{nat_le, bytes_eq, position, ◌||◌}
use Rattle.std.specs.Str.{is_utf8}
use Rattle.std.proofs.lemmas.Grind.{common_steps}
use Rattle.drb_tree.specs.declared.Code.{Code}
use Rattle.drb_tree.specs.declared.Code.TheVariants.{Ascii, Utf8}
use Rattle.drb_tree.specs.Same.{all_ascii}
use Rattle.drb_tree.specs.Sizes.{heavy}
use Rattle.drb_tree.specs.Kept.{max_nodes}
use Rattle.marshal_grammar.specs.Longs.{long_of}
use Rattle.marshal_grammar.specs.Contexts.{Context, past, add_symbol, add_nodes}
use Rattle.marshal_grammar.specs.Grammar.{Grammar, rounds}
use Rattle.marshal_grammar.specs.Reading.{next, go_on, read}
use Rattle.marshal_grammar.specs.Counts.{count, string, count_nodes}
use Rattle.marshal_grammar.specs.Symbols.{some_symbol, linked_symbol, plain_symbol, is_name, encoding, encoding_value, ended, symbol_round, symbol, name}
use Rattle.marshal_grammar.specs.Spelled.{long_from, string_bytes_of, Writing, these, ◌then◌, new_symbol, known_or, ascii_symbol, encoding_bytes, utf8_symbol, symbol_bytes}
use Rattle.marshal_grammar.proofs.LongLists.{long_again, not_less, take_seam, drop_seam}
use Rattle.marshal_grammar.proofs.WrittenLongs.{long_from_is}
use Rattle.marshal_grammar.proofs.Rounds.{rounds_read}
use Rattle.marshal_grammar.proofs.Tables.{position_get}

-- from c, these bytes are read as v, whatever follows, and lead to d
abbrev pub Gives : {A : Type 0} → Grammar A → Context → List ℕ → A → Context → Type 0
Gives g c bs v d = (rest : List ℕ) → read g c (bs ++ rest) ≡ Ok (v, d, rest)

pub not_more : (m n : ℕ) → m ≤ n → nat_le m n ≡ true
not_more m n h = grind (arith, common_steps)

-- after a long
abbrev pub after_long : ℕ → Context → Context
after_long n c = past (length (long_from n)) c

-- after a length and its bytes
abbrev pub after_string : List ℕ → Context → Context
after_string s c = past (length s) (after_long (length s) c)

pub long_gives : (n : ℕ) (c : Context) (rest : List ℕ) → n < 2 ^ 32 → long_of (long_from n ++ rest) ≡ Some (pos n, rest)
long_gives n c rest h = long_again (long_from n) rest (pos n) (long_from_is n h)

pub long_length : (n : ℕ) (rest : List ℕ) → length (long_from n ++ rest) - length rest ≡ length (long_from n)
long_length n rest = omega (arith, length-append (long_from n) rest)

pub count_gives : (n : ℕ) (c : Context) → n < 2 ^ 32 → Gives count c (long_from n) n (after_long n c)
count_gives n c h rest = rw (long_gives n c rest h, long_length n rest) refl

pub string_gives : (s : List ℕ) (c : Context) → length s < 2 ^ 32 → Gives string c (string_bytes_of s) s (after_string s c)
string_gives s c h rest =
    rw (append_assoc, long_gives (length s) c (s ++ rest) h, long_length (length s) (s ++ rest), not_less (length (s ++ rest)) (length s) (omega (arith, length-append s rest)), take_seam s rest (length s) refl, drop_seam s rest (length s) refl) refl

pub nodes_give : (at k : ℕ) (c : Context) (bs : List ℕ) → c.nodes + k ≤ max_nodes → read (count_nodes at k) c bs ≡ Ok (tt, add_nodes k c, bs)
nodes_give at k c bs h = rw (not_more (c.nodes + k) max_nodes h) refl

pub linked_gives : (at k : ℕ) (s : List ℕ) (c : Context) → k < 2 ^ 32 → slice_get c.symbols k ≡ Some s → Gives (linked_symbol at) c (long_from k) s (after_long k c)
linked_gives at k s c h e rest = rw (long_gives k c rest h, long_length k rest) (ap (λ (o : Option (List ℕ)). read (some_symbol at o) (after_long k c) rest) e)

pub plain_gives : (at : ℕ) (s : List ℕ) (c : Context) → length s < 2 ^ 32 → all_ascii s ≡ true → Gives (plain_symbol at) c (string_bytes_of s) s (add_symbol s (after_string s c))
plain_gives at s c h e rest = rw (string_gives s c h rest, e) refl

-- where a symbol may stand, a symbol of the written form is read, and those that wait for it go on
abbrev pub Enters : List ℕ → Writing → Context → Context → Type 0
Enters s w c d = (ws : List (ℕ × List ℕ)) (rest : List ℕ) → read (rounds symbol_round ws) c ((w c.symbols).0 ++ rest) ≡ next (read (ended ws s) d rest) (go_on (λ t. read (rounds symbol_round t)))

-- what a symbol leaves: the table that was written, at most n symbols more, and the same count
pub record Leaves (n : ℕ) (w : Writing) (c d : Context) : Type 0 where
  pub symbols : d.symbols ≡ (w c.symbols).1
  pub few : length d.symbols ≤ length c.symbols + n
  pub nodes : d.nodes ≡ c.nodes

abbrev Known : List ℕ → Context → Option ℕ → Type 0
Known s c o = position (λ t. bytes_eq t s) c.symbols ≡ o

-- one round of a symbol, and the rest
enters : (ws : List (ℕ × List ℕ)) (b : ℕ) (s : List ℕ) (c d : Context) (all bs rest : List ℕ) → all ≡ b ∷ bs → read (symbol_round ws b) (past 1 c) bs ≡ read (ended ws s) d rest
    → read (rounds symbol_round ws) c all ≡ next (read (ended ws s) d rest) (go_on (λ t. read (rounds symbol_round t)))
enters ws b s c d all bs rest e k = ap (read (rounds symbol_round ws) c) e ∙ rounds_read symbol_round ws b c bs ∙ ap (λ r. next r (go_on (λ t. read (rounds symbol_round t)))) k

-- a symbol that was written before
link_enters : (s : List ℕ) (w : Writing) (c : Context) (n : ℕ) → Known s c (Some n) → length c.symbols < 2 ^ 31 → (d : Context) × Enters s (known_or s w) c d × Leaves 1 (known_or s w) c d
link_enters s w c n k l =
    let g = position_get s c.symbols n k in
    let d = after_long n (past 1 c) in (
      d,
      (λ ws rest.
          let q : (known_or s w c.symbols).0 ++ rest ≡ 59 ∷ (long_from n ++ rest) = rw k refl in
          let r : read (symbol_round ws 59) (past 1 c) (long_from n ++ rest) ≡ read (ended ws s) d rest = rw (linked_gives (c.at + 1 - 1) n s (past 1 c) (omega (arith, g.0, l)) g.1 rest) refl in
          enters ws 59 s c d ((known_or s w c.symbols).0 ++ rest) (long_from n ++ rest) rest q r),
      record { symbols = rw k refl; few = omega arith; nodes = refl },
    )

ascii_case : (s : List ℕ) (c : Context) (o : Option ℕ) → Known s c o → all_ascii s ≡ true → length s < 2 ^ 32 → length c.symbols < 2 ^ 31 → (d : Context) × Enters s (ascii_symbol s) c d × Leaves 1 (ascii_symbol s) c d
ascii_case s c None k e h l =
    let d = add_symbol s (after_string s (past 1 c)) in (
      d,
      (λ ws rest.
          let q : (ascii_symbol s c.symbols).0 ++ rest ≡ 58 ∷ (string_bytes_of s ++ rest) = rw k (append_assoc (58 ∷ string_bytes_of s) [] rest) in
          let r : read (symbol_round ws 58) (past 1 c) (string_bytes_of s ++ rest) ≡ read (ended ws s) d rest = rw (plain_gives (c.at + 1 - 1) s (past 1 c) h e rest) refl in
          enters ws 58 s c d ((ascii_symbol s c.symbols).0 ++ rest) (string_bytes_of s ++ rest) rest q r),
      record { symbols = rw k refl; few = omega (arith, length-append c.symbols (s ∷ [])); nodes = refl },
    )
ascii_case s c (Some n) k e h l = link_enters s (these (58 ∷ string_bytes_of s) then new_symbol s) c n k l

pub ascii_enters : (s : List ℕ) (c : Context) → all_ascii s ≡ true → length s < 2 ^ 32 → length c.symbols < 2 ^ 31 → (d : Context) × Enters s (ascii_symbol s) c d × Leaves 1 (ascii_symbol s) c d
ascii_enters s c e h l = ascii_case s c (position (λ t. bytes_eq t s) c.symbols) refl e h l

-- the symbol `E` and its value, T for UTF-8
pub utf8_value : (at : ℕ) (c : Context) (rest : List ℕ) → read (encoding_value at (69 ∷ [])) c (84 ∷ rest) ≡ Ok (Utf8, past 1 c, rest)
utf8_value at c rest = refl

pub ascii_value : (at : ℕ) (c : Context) (rest : List ℕ) → read (encoding_value at (69 ∷ [])) c (70 ∷ rest) ≡ Ok (Ascii, past 1 c, rest)
ascii_value at c rest = refl

-- what is written of an encoding is read again
pub encoding_gives : (b at : ℕ) (code : Code) (c : Context) → ((d : Context) (rest : List ℕ) → read (encoding_value at (69 ∷ [])) d (b ∷ rest) ≡ Ok (code, past 1 d, rest)) → length c.symbols < 2 ^ 31
    → (d : Context) × Gives (encoding at) c (encoding_bytes b c.symbols).0 code d × Leaves 1 (encoding_bytes b) c d
unfolding symbol
encoding_gives b at code c v l =
    let f = ascii_enters (69 ∷ []) (past 1 c) refl (omega arith) l in
    let x = ascii_symbol (69 ∷ []) c.symbols in (
      past 1 f.0,
      (λ rest.
          let q : (encoding_bytes b c.symbols).0 ++ rest ≡ long_from 1 ++ (x.0 ++ (b ∷ rest)) = ap (λ (ys : List ℕ). 6 ∷ ys) (append_assoc x.0 (b ∷ []) rest) in
          let r : read symbol (past 1 c) (x.0 ++ (b ∷ rest)) ≡ Ok (69 ∷ [], f.0, b ∷ rest) = f.1 [] (b ∷ rest) in
          ap (read (encoding at) c) q ∙ rw (count_gives 1 c (omega arith) (x.0 ++ (b ∷ rest)), r, v f.0 rest) refl),
      record { symbols = f.2.symbols; few = f.2.few; nodes = f.2.nodes },
    )

or_true : (a b : Bool) → b ≡ true → a || b ≡ true
or_true a b e = grind (arith, common_steps)

pub is_name_utf8 : (s : List ℕ) → is_utf8 s ≡ true → is_name s Utf8 ≡ true
is_name_utf8 s e = or_true (all_ascii s) (is_utf8 s) e

utf8_case : (s : List ℕ) (c : Context) (o : Option ℕ) → Known s c o → is_utf8 s ≡ true → length s < 2 ^ 32 → length c.symbols + 1 < 2 ^ 31 → (d : Context) × Enters s (utf8_symbol s) c d × Leaves 2 (utf8_symbol s) c d
utf8_case s c None k e h l =
    let at = c.at + 1 - 1 in
    let c2 = add_symbol s (after_string s (past 1 (past 1 c))) in
    let c3 = after_long 1 c2 in
    let f = ascii_enters (69 ∷ []) c3 refl (omega arith) (omega (arith, l, length-append c.symbols (s ∷ []))) in
    let x = ascii_symbol (69 ∷ []) (c.symbols ++ (s ∷ [])) in (
      past 1 f.0,
      (λ ws rest.
          let more = string_bytes_of s ++ (long_from 1 ++ (x.0 ++ (84 ∷ rest))) in
          let q : (utf8_symbol s c.symbols).0 ++ rest ≡ 73 ∷ 58 ∷ more =
          rw k (append_assoc (73 ∷ 58 ∷ string_bytes_of s) (6 ∷ (x.0 ++ (84 ∷ []))) rest ∙ ap (λ (ys : List ℕ). 73 ∷ 58 ∷ (string_bytes_of s ++ (6 ∷ ys))) (append_assoc x.0 (84 ∷ []) rest)) in
          let r : read (symbol_round ws 73) (past 1 c) (58 ∷ more) ≡ Ok (inl ((at, s) ∷ ws), c3, x.0 ++ (84 ∷ rest)) =
          rw (string_gives s (past 1 (past 1 c)) h (long_from 1 ++ (x.0 ++ (84 ∷ rest))), count_gives 1 c2 (omega arith) (x.0 ++ (84 ∷ rest))) refl in
          let v : read (ended ((at, s) ∷ ws) (69 ∷ [])) f.0 (84 ∷ rest) ≡ read (ended ws s) (past 1 f.0) rest = rw (is_name_utf8 s e) refl in
          ap (read (rounds symbol_round ws) c) q ∙ rounds_read symbol_round ws 73 c (58 ∷ more) ∙ ap (λ r. next r (go_on (λ t. read (rounds symbol_round t)))) r
          ∙ f.1 ((at, s) ∷ ws) (84 ∷ rest) ∙ ap (λ r. next r (go_on (λ t. read (rounds symbol_round t)))) v),
      record { symbols = rw k f.2.symbols; few = omega (arith, f.2.few, length-append c.symbols (s ∷ [])); nodes = f.2.nodes },
    )
utf8_case s c (Some n) k e h l =
    let f = link_enters s (these (73 ∷ 58 ∷ string_bytes_of s) then new_symbol s then encoding_bytes 84) c n k (omega (arith, l)) in
    (f.0, f.1, record { symbols = f.2.symbols; few = omega (arith, f.2.few); nodes = f.2.nodes })

symbol_case : (s : List ℕ) (c : Context) (a : Bool) → all_ascii s ≡ a → is_utf8 s ≡ true → length s < 2 ^ 32 → length c.symbols + 1 < 2 ^ 31 → (d : Context) × Enters s (symbol_bytes s) c d × Leaves 2 (symbol_bytes s) c d
symbol_case s c true a e h l =
    let f = ascii_enters s c a h (omega (arith, l)) in
    rw a (f.0, f.1, record { symbols = f.2.symbols; few = omega (arith, f.2.few); nodes = f.2.nodes })
symbol_case s c false a e h l = rw a (utf8_case s c (position (λ t. bytes_eq t s) c.symbols) refl e h l)

-- what is written of a symbol is read again
pub symbol_gives : (s : List ℕ) (c : Context) → is_utf8 s ≡ true → length s < 2 ^ 32 → length c.symbols + 1 < 2 ^ 31 → (d : Context) × Gives symbol c (symbol_bytes s c.symbols).0 s d × Leaves 2 (symbol_bytes s) c d
unfolding symbol
symbol_gives s c e h l = let f = symbol_case s c (all_ascii s) refl e h l in (f.0, (λ rest. f.1 [] rest), f.2)

-- what a piece leaves: the table that was written, at most two symbols more for each node that it counts, and so many nodes more
pub record Counts (k : ℕ) (w : Writing) (c d : Context) : Type 0 where
  pub symbols : d.symbols ≡ (w c.symbols).1
  pub few : length d.symbols ≤ length c.symbols + 2 * k
  pub nodes : d.nodes ≡ c.nodes + k

-- a class symbol or a name
pub name_gives : (s : List ℕ) (c : Context) → is_utf8 s ≡ true → length c.symbols ≤ 2 * c.nodes → c.nodes + heavy s ≤ max_nodes → (d : Context) × Gives name c (symbol_bytes s c.symbols).0 s d × Counts (heavy s) (symbol_bytes s) c d
name_gives s c e l h =
    let f = symbol_gives s c e (omega (arith, h)) (omega (arith, l, h)) in (
      add_nodes (heavy s) f.0,
      (λ rest. rw (f.1 rest, nodes_give c.at (heavy s) f.0 rest (omega (arith, f.2.nodes, h))) refl),
      record { symbols = f.2.symbols; few = omega (arith, f.2.few); nodes = omega (arith, f.2.nodes) },
    )
