-- A symbol in rounds.
use Rattle.std.proofs.Common.{◌≡◌, ℕ, suc, ◌+◌, ◌-◌, ◌<◌, List, [], ◌∷◌, Ok, Err, refl, ap, ◌∙◌, arith, inl, inr}
use Rattle.marshal_grammar.specs.declared.refusal.Refusal.{Refusal}
use Rattle.marshal_grammar.specs.declared.refusal.Why.TheVariants as why
use Rattle.marshal_grammar.specs.Contexts.{Context, past}
use Rattle.marshal_grammar.specs.Grammar.{byte}
use Rattle.marshal_grammar.specs.Kinds.{kind_of}
use Rattle.marshal_grammar.specs.Reading.{read, in_rounds}
use Rattle.marshal_grammar.specs.Symbols.{Waiting, symbol_by, symbol_round}
use Rattle.marshal_grammar.proofs.Results.{ok_is}
use Rattle.marshal_read.specs.declared.error.ReadError.{ReadError}
use Rattle.marshal_read.specs.declared.error.ReadError.TheVariants as error
use Rattle.marshal_read.specs.State.{State}
use Rattle.marshal_read.specs.Fails.{Fails, read_at}
use Rattle.marshal_read.specs.Rounds.{one_round, rounds_left}

goes_on_at : (n : ℕ) (ws vs : Waiting) (c : Context) (bs : List ℕ) (t : State) → read (one_round ws) c bs ≡ Ok (inl vs, t.seen, t.rest) → in_rounds (λ u b. read (symbol_round u b)) (suc n) ws c bs ≡ rounds_left n vs t
goes_on_at n ws vs c [] t e = absurd (cc)
goes_on_at n ws vs c (b ∷ bs) t e = rw e refl

ends_at : (n : ℕ) (ws : Waiting) (v : List ℕ) (c : Context) (bs : List ℕ) (t : State) → read (one_round ws) c bs ≡ Ok (inr v, t.seen, t.rest) → in_rounds (λ u b. read (symbol_round u b)) (suc n) ws c bs ≡ Ok (v, t.seen, t.rest)
ends_at n ws v c [] t e = absurd (cc)
ends_at n ws v c (b ∷ bs) t e = rw e refl

fails_at : (n : ℕ) (ws : Waiting) (f : Refusal) (c : Context) (bs : List ℕ) → read (one_round ws) c bs ≡ Err f → in_rounds (λ u b. read (symbol_round u b)) (suc n) ws c bs ≡ Err f
fails_at n ws f c [] e = let k : record { why = why.Short; at = c.at + 0 } ≡ f = cc in ap (λ (q : Refusal). Err q) k
fails_at n ws f c (b ∷ bs) e = rw e refl

pub goes_on : (end i : ℕ) (ws vs : Waiting) (s t : State) → i < end → read_at (one_round ws) s ≡ Ok (inl vs, t.seen, t.rest) → rounds_left (end - i) ws s ≡ rounds_left (end - (i + 1)) vs t
goes_on end i ws vs s t lt e =
    let k : end - i ≡ suc (end - (i + 1)) = omega arith in
    rw k (goes_on_at (end - (i + 1)) ws vs s.seen s.rest t e)

pub ends : (end i : ℕ) (ws : Waiting) (v : List ℕ) (s t : State) → i < end → read_at (one_round ws) s ≡ Ok (inr v, t.seen, t.rest) → rounds_left (end - i) ws s ≡ Ok (v, t.seen, t.rest)
ends end i ws v s t lt e =
    let k : end - i ≡ suc (end - (i + 1)) = omega arith in
    rw k (ends_at (end - (i + 1)) ws v s.seen s.rest t e)

pub fails : (r : ReadError) (end i : ℕ) (ws : Waiting) (s : State) → i < end → Fails r (read_at (one_round ws) s) → Fails r (rounds_left (end - i) ws s)
fails error.Memory end i ws s lt e = tt
fails (error.Refused f) end i ws s lt e =
    let k : end - i ≡ suc (end - (i + 1)) = omega arith in
    rw k (fails_at (end - (i + 1)) ws f s.seen s.rest e)

begins_at : (ws : Waiting) (b at : ℕ) (c : Context) (bs : List ℕ) (t : State) → at ≡ c.at → read byte c bs ≡ Ok (b, t.seen, t.rest) → read (one_round ws) c bs ≡ read_at (symbol_by at ws b (kind_of b)) t
begins_at ws b at c [] t a e = absurd (cc)
begins_at ws b at c (x ∷ bs) t a e =
    let q = ok_is (x, past 1 c, bs) (b, t.seen, t.rest) e in
    let k : c.at + 1 - 1 ≡ at = omega (arith, a) in
    ap (λ (n : ℕ). read (symbol_by n ws x (kind_of x)) (past 1 c) bs) k
    ∙ ap (λ (r : ℕ × Context × List ℕ). read (symbol_by at ws r.0 (kind_of r.0)) r.1 r.2) q

-- after its first byte, a round is what that byte says
pub begins : (ws : Waiting) (b at : ℕ) (s t : State) → at ≡ s.seen.at → read_at byte s ≡ Ok (b, t.seen, t.rest) → read_at (one_round ws) s ≡ read_at (symbol_by at ws b (kind_of b)) t
begins ws b at s t a e = begins_at ws b at s.seen s.rest t a e
