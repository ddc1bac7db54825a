-- What is written of a value without parts is read again.
use Rattle.std.proofs.Common.{◌≡◌, ℕ, zero, suc, ◌+◌, ◌-◌, ◌*◌, ◌/◌, ◌^◌, ◌<◌, ◌≤◌, ℤ, pos, negsuc, List, [], ◌∷◌, ◌++◌, length, Ok, Bool, true, false, refl, ap, sym, ◌∙◌, arith, cond, nat_lt, ◌==◌, length-append, append_assoc}
use native.Mathlib.Numerals.{unary_clauses}
use Rattle.std.proofs.lemmas.Grind.{common_steps}
use Rattle.drb_tree.specs.declared.Code.{Code}
use Rattle.drb_tree.specs.declared.Code.TheVariants.{Binary, Ascii, Utf8}
use Rattle.drb_tree.specs.declared.Tree.{Tree}
use Rattle.drb_tree.specs.Same.{all_ascii}
use Rattle.drb_tree.specs.Sizes.{heavy}
use Rattle.drb_tree.specs.Kept.{max_nodes}
use Rattle.drb_tree.specs.declared.Remote.{Remote}
use Rattle.marshal_grammar.specs.Longs.{Long, little}
use Rattle.marshal_grammar.specs.Contexts.{Context, past, add_nodes, add_object}
use Rattle.marshal_grammar.specs.Grammar.{Grammar}
use Rattle.marshal_grammar.specs.Reading.{read}
use Rattle.marshal_grammar.specs.Symbols.{encoding_value}
use Rattle.marshal_grammar.specs.Trees as tree
use Rattle.marshal_grammar.specs.Values.{body, value, is_i128}
use Rattle.marshal_grammar.specs.Spelled.{bytes_of, long_from, long_below, string_bytes_of, Writing, these, ◌then◌, encoding_bytes, text_bytes, units, int_bytes}
use Rattle.marshal_grammar.proofs.LongLists.{long_again, less, not_less, less_true, take_seam, drop_seam}
use Rattle.marshal_grammar.proofs.WrittenLongs.{long_from_is, long_below_is, length_bytes_of}
use Rattle.marshal_grammar.proofs.Pieces.{Gives, Counts, after_long, after_string, long_gives, long_length, string_gives, nodes_give, encoding_gives, utf8_value, ascii_value}

-- what is written is read as t, with so many levels left, and k nodes
abbrev pub Puts : Grammar Remote → ℕ → Writing → ℕ → Tree → Context → Type 0
Puts remotes room w k t c = (d : Context) × Gives (value remotes room) c (w c.symbols).0 t d × Counts k w c d

-- a piece that writes no symbol
abbrev pub plain : (bs : List ℕ) (k : ℕ) (c d : Context) → d.symbols ≡ c.symbols → d.nodes ≡ c.nodes + k → Counts k (these bs) c d
plain bs k c d s n = record { symbols = s; few = omega (arith, ap length s); nodes = n }

zero_is : (m : ℕ) → (m == 0) ≡ true → m ≡ 0
zero_is m e = grind (arith, common_steps)

few_case : (k m : ℕ) → units k (m / 65536) ≤ k → (b : Bool) → cond b 0 (suc (units k (m / 65536))) ≤ suc k
few_case k m h true = omega arith
few_case k m h false = omega (arith, h)

pub units_few : (k m : ℕ) → units k m ≤ k
units_few zero m = omega arith
units_few (suc k) m = few_case k m (units_few k (m / 65536)) (m == 0)

two_more : (u m : ℕ) → little (bytes_of (2 * u) (m / 65536)) ≡ m / 65536 → little (bytes_of (2 * suc u) m) ≡ m
two_more u m h =
    let q : 2 * suc u ≡ suc (suc (2 * u)) = omega arith in
    let d : m / 256 / 256 ≡ m / 65536 = omega arith in
    rw (q, d, h) (omega arith)

hold_case : (k m : ℕ) → little (bytes_of (2 * units k (m / 65536)) (m / 65536)) ≡ m / 65536 → (b : Bool) → (m == 0) ≡ b → little (bytes_of (2 * units (suc k) m) m) ≡ m
hold_case k m h true e = rw e (sym (zero_is m e))
hold_case k m h false e = rw e (two_more (units k (m / 65536)) m h)

power_step : (k : ℕ) → 65536 ^ suc k ≡ 65536 * 65536 ^ k
power_step k = simp unary_clauses (omega arith)

units_hold : (k m : ℕ) → m < 65536 ^ k → little (bytes_of (2 * units k m) m) ≡ m
units_hold zero m h = omega arith
units_hold (suc k) m h = hold_case k m (units_hold k (m / 65536) (omega (arith, h, power_step k))) (m == 0) refl

module _ (remotes : Grammar Remote) (room : ℕ) where
  pub nil_puts : (c : Context) → c.nodes + 1 ≤ max_nodes → Puts remotes (suc room) (these (48 ∷ [])) 1 tree.nil c
  unfolding value body
  nil_puts c h = let d = add_nodes 1 (past 1 c) in (d, (λ rest. rw (nodes_give c.at 1 (past 1 c) rest h) refl), plain (48 ∷ []) 1 c d refl refl)

  pub bool_puts : (b : Bool) (c : Context) → c.nodes + 1 ≤ max_nodes → Puts remotes (suc room) (these (cond b 84 70 ∷ [])) 1 (tree.bool b) c
  unfolding value body
  bool_puts true c h = let d = add_nodes 1 (past 1 c) in (d, (λ rest. rw (nodes_give c.at 1 (past 1 c) rest h) refl), plain (84 ∷ []) 1 c d refl refl)
  bool_puts false c h = let d = add_nodes 1 (past 1 c) in (d, (λ rest. rw (nodes_give c.at 1 (past 1 c) rest h) refl), plain (70 ∷ []) 1 c d refl refl)

  small_puts : (bs : List ℕ) (n : ℤ) (c : Context) → Long bs n → c.nodes + 1 ≤ max_nodes → Puts remotes (suc room) (these (105 ∷ bs)) 1 (tree.int n) c
  unfolding value body
  small_puts bs n c l h =
      let e = past (length bs) (past 1 c) in
      let d = add_nodes 1 e in (
        d,
        (λ rest.
            let k : length (bs ++ rest) - length rest ≡ length bs = omega (arith, length-append bs rest) in
            rw (long_again bs rest n l, k, nodes_give c.at 1 e rest h) refl),
        plain (105 ∷ bs) 1 c d refl refl,
      )

  plus_puts : (u m : ℕ) (c : Context) → little (bytes_of (2 * u) m) ≡ m → u < 2 ^ 32 → m < 2 ^ 127 → c.nodes + 1 ≤ max_nodes
      → Puts remotes (suc room) (these (108 ∷ 43 ∷ (long_from u ++ bytes_of (2 * u) m))) 1 (tree.int (pos m)) c
  unfolding value body
  plus_puts u m c b k i h =
      let bs = bytes_of (2 * u) m in
      let l = length_bytes_of (2 * u) m in
      let f = past (2 * u) (after_long u (past 1 (past 1 c))) in
      let d = add_object (tree.int (pos m)) (add_nodes 1 f) in (
        d,
        (λ rest. ap (read (value remotes (suc room)) c) (append_assoc (108 ∷ 43 ∷ long_from u) bs rest)
            ∙ rw (long_gives u (past 1 (past 1 c)) (bs ++ rest) k, long_length u (bs ++ rest), not_less (length (bs ++ rest)) (2 * u) (omega (arith, length-append bs rest, l)), take_seam bs rest (2 * u) l, drop_seam bs rest (2 * u) l, b, less m (2 ^ 127) i, nodes_give c.at 1 f rest h) refl),
        plain _ 1 c d refl refl,
      )

  minus_puts : (u m : ℕ) (c : Context) → little (bytes_of (2 * u) (suc m)) ≡ suc m → u < 2 ^ 32 → m < 2 ^ 127 → c.nodes + 1 ≤ max_nodes
      → Puts remotes (suc room) (these (108 ∷ 45 ∷ (long_from u ++ bytes_of (2 * u) (suc m)))) 1 (tree.int (negsuc m)) c
  unfolding value body
  minus_puts u m c b k i h =
      let bs = bytes_of (2 * u) (suc m) in
      let l = length_bytes_of (2 * u) (suc m) in
      let f = past (2 * u) (after_long u (past 1 (past 1 c))) in
      let d = add_object (tree.int (negsuc m)) (add_nodes 1 f) in (
        d,
        (λ rest. ap (read (value remotes (suc room)) c) (append_assoc (108 ∷ 45 ∷ long_from u) bs rest)
            ∙ rw (long_gives u (past 1 (past 1 c)) (bs ++ rest) k, long_length u (bs ++ rest), not_less (length (bs ++ rest)) (2 * u) (omega (arith, length-append bs rest, l)), take_seam bs rest (2 * u) l, drop_seam bs rest (2 * u) l, b, less m (2 ^ 127) i, nodes_give c.at 1 f rest h) refl),
        plain _ 1 c d refl refl,
      )

  pos_puts : (m : ℕ) (c : Context) → (b : Bool) → nat_lt m (2 ^ 30) ≡ b → m < 2 ^ 127 → c.nodes + 1 ≤ max_nodes → Puts remotes (suc room) (these (int_bytes (pos m))) 1 (tree.int (pos m)) c
  pos_puts m c true e i h = rw e (small_puts (long_from m) (pos m) c (long_from_is m (omega (arith, less_true m (2 ^ 30) e))) h)
  pos_puts m c false e i h = rw e (plus_puts (units 8 m) m c (units_hold 8 m (omega (arith, i))) (omega (arith, units_few 8 m)) i h)

  neg_puts : (m : ℕ) (c : Context) → (b : Bool) → nat_lt m (2 ^ 30) ≡ b → m < 2 ^ 127 → c.nodes + 1 ≤ max_nodes → Puts remotes (suc room) (these (int_bytes (negsuc m))) 1 (tree.int (negsuc m)) c
  neg_puts m c true e i h = rw e (small_puts (long_below m) (negsuc m) c (long_below_is m (omega (arith, less_true m (2 ^ 30) e))) h)
  neg_puts m c false e i h = rw e (minus_puts (units 8 (suc m)) m c (units_hold 8 (suc m) (omega (arith, i))) (omega (arith, units_few 8 (suc m))) i h)

  pub int_puts : (n : ℤ) (c : Context) → is_i128 n ≡ true → c.nodes + 1 ≤ max_nodes → Puts remotes (suc room) (these (int_bytes n)) 1 (tree.int n) c
  int_puts (pos m) c i h = pos_puts m c (nat_lt m (2 ^ 30)) refl (less_true m (2 ^ 127) i) h
  int_puts (negsuc m) c i h = neg_puts m c (nat_lt m (2 ^ 30)) refl (less_true m (2 ^ 127) i) h

  pub plain_text_puts : (s : List ℕ) (c : Context) → c.nodes + heavy s ≤ max_nodes → Puts remotes (suc room) (these (34 ∷ string_bytes_of s)) (heavy s) (tree.text s Binary) c
  unfolding value body
  plain_text_puts s c h =
      let e = after_string s (past 1 c) in
      let d = add_object (tree.text s Binary) (add_nodes (heavy s) e) in
      (d, (λ rest. rw (string_gives s (past 1 c) (omega (arith, h)) rest, nodes_give c.at (heavy s) e rest h) refl), plain _ (heavy s) c d refl refl)

  coded_puts : (b : ℕ) (code : Code) (s : List ℕ) (c : Context) → ((at : ℕ) (d : Context) (rest : List ℕ) → read (encoding_value at (69 ∷ [])) d (b ∷ rest) ≡ Ok (code, past 1 d, rest))
      → length c.symbols ≤ 2 * c.nodes → c.nodes + heavy s ≤ max_nodes → Puts remotes (suc room) (these (73 ∷ 34 ∷ string_bytes_of s) then encoding_bytes b) (heavy s) (tree.text s code) c
  unfolding value body
  coded_puts b code s c v l h =
      let e = after_string s (past 1 (past 1 c)) in
      let f = encoding_gives b c.at code e (v c.at) (omega (arith, l, h)) in
      let d = add_object (tree.text s code) (add_nodes (heavy s) f.0) in
      let x = (encoding_bytes b c.symbols).0 in (
        d,
        (λ rest. ap (read (value remotes (suc room)) c) (append_assoc (73 ∷ 34 ∷ string_bytes_of s) x rest)
            ∙ rw (string_gives s (past 1 (past 1 c)) (omega (arith, h)) (x ++ rest), f.1 rest, nodes_give c.at (heavy s) f.0 rest (omega (arith, f.2.nodes, h))) refl),
        record { symbols = f.2.symbols; few = omega (arith, f.2.few); nodes = omega (arith, f.2.nodes) },
      )

  pub text_puts : (s : List ℕ) (code : Code) (c : Context) → length c.symbols ≤ 2 * c.nodes → c.nodes + heavy s ≤ max_nodes → Puts remotes (suc room) (text_bytes s code) (heavy s) (tree.text s code) c
  text_puts s Binary c l h = plain_text_puts s c h
  text_puts s Ascii c l h = coded_puts 70 Ascii s c ascii_value l h
  text_puts s Utf8 c l h = coded_puts 84 Utf8 s c utf8_value l h

  pub named_puts_class : (s : List ℕ) (c : Context) → all_ascii s ≡ true → c.nodes + heavy s ≤ max_nodes → Puts remotes (suc room) (these (99 ∷ string_bytes_of s)) (heavy s) (tree.class s) c
  unfolding value body
  named_puts_class s c a h =
      let e = after_string s (past 1 c) in
      let d = add_object (tree.class s) (add_nodes (heavy s) e) in
      (d, (λ rest. rw (string_gives s (past 1 c) (omega (arith, h)) rest, a, nodes_give c.at (heavy s) e rest h) refl), plain _ (heavy s) c d refl refl)

  pub named_puts_module : (s : List ℕ) (c : Context) → all_ascii s ≡ true → c.nodes + heavy s ≤ max_nodes → Puts remotes (suc room) (these (109 ∷ string_bytes_of s)) (heavy s) (tree.module_named s) c
  unfolding value body
  named_puts_module s c a h =
      let e = after_string s (past 1 c) in
      let d = add_object (tree.module_named s) (add_nodes (heavy s) e) in
      (d, (λ rest. rw (string_gives s (past 1 c) (omega (arith, h)) rest, a, nodes_give c.at (heavy s) e rest h) refl), plain _ (heavy s) c d refl refl)
