-- What is written of a symbol as a value is read again.
use Rattle.std.proofs.Common.{◌≡◌, ℕ, suc, ◌+◌, ◌*◌, ◌≤◌, List, [], ◌∷◌, ◌++◌, length, Option, Some, None, Bool, true, false, refl, ap, ◌∙◌, arith, length-append, append_assoc}
use Rattle.std.specs.Prelude.{bytes_eq, position}
use Rattle.std.specs.Str.{is_utf8}
use Rattle.drb_tree.specs.declared.Remote.{Remote}
use Rattle.drb_tree.specs.declared.Code.TheVariants.{Utf8}
use Rattle.drb_tree.specs.Same.{all_ascii}
use Rattle.drb_tree.specs.Sizes.{heavy}
use Rattle.drb_tree.specs.Kept.{max_nodes}
use Rattle.marshal_grammar.specs.Contexts.{Context, past, add_symbol, add_nodes}
use Rattle.marshal_grammar.specs.Grammar.{Grammar}
use Rattle.marshal_grammar.specs.Reading.{read}
use Rattle.marshal_grammar.specs.Trees as tree
use Rattle.marshal_grammar.specs.Values.{body, value}
use Rattle.marshal_grammar.specs.Spelled.{long_from, string_bytes_of, Writing, these, ◌then◌, new_symbol, known_or, ascii_symbol, encoding_bytes, utf8_symbol, symbol_bytes}
use Rattle.marshal_grammar.proofs.Tables.{position_get}
use Rattle.marshal_grammar.proofs.Pieces.{after_long, after_string, string_gives, linked_gives, plain_gives, nodes_give, encoding_gives, utf8_value, is_name_utf8}
use Rattle.marshal_grammar.proofs.WrittenLeaves.{Puts}

module _ (remotes : Grammar Remote) (room : ℕ) where
  link_puts : (s : List ℕ) (w : Writing) (c : Context) (n : ℕ) → position (λ t. bytes_eq t s) c.symbols ≡ Some n → length c.symbols ≤ 2 * c.nodes → c.nodes + heavy s ≤ max_nodes → Puts remotes (suc room) (known_or s w) (heavy s) (tree.sym s) c
  unfolding value body
  link_puts s w c n k l h =
      let g = position_get s c.symbols n k in
      let e = after_long n (past 1 c) in (
        add_nodes (heavy s) e,
        (λ rest.
            let q : (known_or s w c.symbols).0 ++ rest ≡ 59 ∷ (long_from n ++ rest) = rw k refl in
            ap (read (value remotes (suc room)) c) q ∙ rw (linked_gives c.at n s (past 1 c) (omega (arith, g.0, l, h)) g.1 rest, nodes_give c.at (heavy s) e rest h) refl),
        record { symbols = rw k refl; few = omega arith; nodes = refl },
      )

  ascii_puts : (s : List ℕ) (c : Context) (o : Option ℕ) → position (λ t. bytes_eq t s) c.symbols ≡ o → all_ascii s ≡ true → length c.symbols ≤ 2 * c.nodes → c.nodes + heavy s ≤ max_nodes → Puts remotes (suc room) (ascii_symbol s) (heavy s) (tree.sym s) c
  unfolding value body
  ascii_puts s c (Some n) k a l h = link_puts s (these (58 ∷ string_bytes_of s) then new_symbol s) c n k l h
  ascii_puts s c None k a l h =
      let e = add_symbol s (after_string s (past 1 c)) in (
        add_nodes (heavy s) e,
        (λ rest.
            let q : (ascii_symbol s c.symbols).0 ++ rest ≡ 58 ∷ (string_bytes_of s ++ rest) = rw k (append_assoc (58 ∷ string_bytes_of s) [] rest) in
            ap (read (value remotes (suc room)) c) q ∙ rw (plain_gives c.at s (past 1 c) (omega (arith, h)) a rest, nodes_give c.at (heavy s) e rest h) refl),
        record { symbols = rw k refl; few = omega (arith, length-append c.symbols (s ∷ [])); nodes = refl },
      )

  utf8_puts : (s : List ℕ) (c : Context) (o : Option ℕ) → position (λ t. bytes_eq t s) c.symbols ≡ o → is_utf8 s ≡ true → length c.symbols ≤ 2 * c.nodes → c.nodes + heavy s ≤ max_nodes → Puts remotes (suc room) (utf8_symbol s) (heavy s) (tree.sym s) c
  unfolding value body
  utf8_puts s c (Some n) k a l h = link_puts s (these (73 ∷ 58 ∷ string_bytes_of s) then new_symbol s then encoding_bytes 84) c n k l h
  utf8_puts s c None k a l h =
      let e = add_symbol s (after_string s (past 1 (past 1 c))) in
      let f = encoding_gives 84 c.at Utf8 e (λ d rest. utf8_value c.at d rest) (omega (arith, l, h, length-append c.symbols (s ∷ []))) in
      let x = (encoding_bytes 84 (c.symbols ++ (s ∷ []))).0 in (
        add_nodes (heavy s) f.0,
        (λ rest.
            let q : (utf8_symbol s c.symbols).0 ++ rest ≡ 73 ∷ 58 ∷ (string_bytes_of s ++ (x ++ rest)) = rw k (append_assoc (73 ∷ 58 ∷ string_bytes_of s) x rest) in
            ap (read (value remotes (suc room)) c) q
            ∙ rw (string_gives s (past 1 (past 1 c)) (omega (arith, h)) (x ++ rest), f.1 rest, is_name_utf8 s a, nodes_give c.at (heavy s) f.0 rest (omega (arith, f.2.nodes, h))) refl),
        record { symbols = rw k f.2.symbols; few = omega (arith, f.2.few, length-append c.symbols (s ∷ [])); nodes = omega (arith, f.2.nodes) },
      )

  sym_case : (s : List ℕ) (c : Context) (b : Bool) → all_ascii s ≡ b → is_utf8 s ≡ true → length c.symbols ≤ 2 * c.nodes → c.nodes + heavy s ≤ max_nodes → Puts remotes (suc room) (symbol_bytes s) (heavy s) (tree.sym s) c
  sym_case s c true b a l h = rw b (ascii_puts s c (position (λ t. bytes_eq t s) c.symbols) refl b l h)
  sym_case s c false b a l h = rw b (utf8_puts s c (position (λ t. bytes_eq t s) c.symbols) refl a l h)

  pub sym_puts : (s : List ℕ) (c : Context) → is_utf8 s ≡ true → length c.symbols ≤ 2 * c.nodes → c.nodes + heavy s ≤ max_nodes → Puts remotes (suc room) (symbol_bytes s) (heavy s) (tree.sym s) c
  sym_puts s c a l h = sym_case s c (all_ascii s) refl a l h
