-- Names and their encodings.
use Rattle.std.proofs.Common.{◌≡◌, ℕ, List, Bool, true, false, Result, Ok, Err, refl, sym, ◌∙◌, subst, IsUtf8, MatchResult}
use Rattle.std.specs.Result.{is_ok}
use Rattle.std.specs.Str.{is_utf8}
use Rattle.std.proofs.lemmas.Str.{IsUtf8-from_is_utf8, is_utf8-from_IsUtf8}
use Rattle.marshal_grammar.specs.Contexts.{add_symbol}
use Rattle.marshal_grammar.specs.Counts.{string}
use Rattle.marshal_grammar.specs.Symbols.{encoding, marked_symbol, is_name}
use Rattle.marshal_read.specs.declared.error.ReadError.{ReadError}
use Rattle.marshal_grammar.specs.declared.refusal.Why.TheVariants as why
use Rattle.marshal_grammar.specs.Grammar.{must, becomes, gives, ◌>>=◌, ◌>>◌}
use Rattle.marshal_grammar.specs.Reading.{read}
use Rattle.marshal_read.proofs.Followed.{then_ok, then_err, fails_as}
use Rattle.marshal_read.specs.State.{State}
use Rattle.marshal_read.specs.Fails.{Fails, read_at}

not_utf8 : (b : List ℕ) (v : Bool) → is_utf8 b ≡ v → (IsUtf8 b → ⊥) → false ≡ is_utf8 b
not_utf8 b true e h = absurd (h (IsUtf8-from_is_utf8 b e))
not_utf8 b false e h = sym e

pub is_ok-utf8 : {T E : Type 0} (P : T → Type 0) (Q : E → Type 0) (r : Result T E) (b : List ℕ) → MatchResult r (λ s. P s × IsUtf8 b) (λ e. (IsUtf8 b → ⊥) × Q e) → is_ok r ≡ is_utf8 b
is_ok-utf8 P Q (Ok x) b h = sym (is_utf8-from_IsUtf8 b h.1)
is_ok-utf8 P Q (Err e) b h = not_utf8 b (is_utf8 b) refl h.0

pub marked_symbol_fails : (r : ReadError) (at : ℕ) (s : List ℕ) (a b c : State) → read_at string a ≡ Ok (s, b.seen, b.rest) → c ≡ record b { seen = add_symbol s b.seen } → Fails r (read_at (encoding at) c) → Fails r (read_at (marked_symbol at) a)
marked_symbol_fails r at s a b c e f =
    fails_as r (read_at (encoding at) c) (read_at (marked_symbol at) a)
    (λ q h. let k : read (encoding at) (add_symbol s b.seen) b.rest ≡ Err q = subst (λ (t : State). read_at (encoding at) t ≡ Err q) f h in
    then_ok (read_at string a) (λ x. read (becomes (add_symbol x) >> (encoding at >>= (λ code. must (is_name x code) why.Name at >> gives x)))) s b.seen b.rest e
    ∙ then_err (read (encoding at) (add_symbol s b.seen) b.rest) (λ code. read (must (is_name s code) why.Name at >> gives s)) q k)
