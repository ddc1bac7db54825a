-- What is read is spelled.
use Rattle.std.proofs.Common.{◌≡◌, ℕ, zero, suc, ◌+◌, ◌-◌, ◌⊎◌, inl, inr, ℤ, List, [], ◌∷◌, ◌++◌, length, take, drop, Option, Some, None, Ok, Err, refl, ap, sym, ◌∙◌, arith, nat_lt, length-append, append_assoc, subst, length-take}
use Rattle.std.proofs.lemmas.List.{take-append-drop}
use Rattle.marshal_grammar.specs.declared.refusal.Why.{Why}
use Rattle.marshal_grammar.specs.Longs.{long_of}
use Rattle.marshal_grammar.specs.Contexts.{Context, opening, past}
use Rattle.marshal_grammar.specs.Grammar.{Grammar, gives, refuses, must, byte, bytes, long, context, becomes, within, follows, rounds, Spelling, InRounds, Spells}
use Rattle.marshal_grammar.specs.Reading.{Read, long_or, inside, read, go_on, in_rounds}
use Rattle.marshal_grammar.proofs.LongLists.{long_front, less_false}
use Rattle.marshal_grammar.proofs.Results.{ok_is, next_ok, choice_ok, guard_ok}

-- what was read stands at the front of the bytes
abbrev pub Spelt : {A : Type 0} → Spelling A → Context → List ℕ → A × Context × List ℕ → Type 0
Spelt S c bs r = (b : List ℕ) × S c b r.0 r.1 × (bs ≡ b ++ r.2)

-- what is read, is spelled
abbrev pub IsSpelled : {A : Type 0} → Spelling A → (Context → List ℕ → Read A) → Type 0
IsSpelled {A = A} S reads = (c : Context) (bs : List ℕ) (r : A × Context × List ℕ) → reads c bs ≡ Ok r → Spelt S c bs r

round_sound : {A S : Type 0} (Round : S → ℕ → Spelling (S ⊎ A)) (round : S → ℕ → Context → List ℕ → Read (S ⊎ A)) → (n : ℕ) → ((s : S) (c : Context) (bs : List ℕ) (r : A × Context × List ℕ) → in_rounds round n s c bs ≡ Ok r → Spelt (InRounds Round n s) c bs r)
    → (s : S) (b : ℕ) (c : Context) (bs these rest : List ℕ) (d : Context) (o : S ⊎ A) (r : A × Context × List ℕ) → Round s b (past 1 c) these o d → bs ≡ these ++ rest
    → go_on (in_rounds round n) o d rest ≡ Ok r → Spelt (InRounds Round (suc n) s) c (b ∷ bs) r
round_sound Round round n h s b c bs these rest d (inl t) r f e k =
    let g = h t d rest r k in
    (b ∷ (these ++ g.0), (b, these ++ g.0, refl, inr (t, these, g.0, d, refl, f, g.1)), ap (λ (xs : List ℕ). b ∷ xs) (e ∙ ap (λ ys. these ++ ys) g.2 ∙ sym (append_assoc these g.0 r.2)))
round_sound {A = A} Round round n h s b c bs these rest d (inr v) r f e k =
    let q : (v, d, rest) ≡ r = ok_is (v, d, rest) r k in
    subst (Spelt (InRounds Round (suc n) s) c (b ∷ bs)) q (b ∷ these, (b, these, refl, inl f), ap (λ (xs : List ℕ). b ∷ xs) e)

rounds_sound : {A S : Type 0} (Round : S → ℕ → Spelling (S ⊎ A)) (round : S → ℕ → Context → List ℕ → Read (S ⊎ A)) → ((t : S) (b : ℕ) → IsSpelled (Round t b) (round t b))
    → (n : ℕ) (s : S) (c : Context) (bs : List ℕ) (r : A × Context × List ℕ) → in_rounds round n s c bs ≡ Ok r → Spelt (InRounds Round n s) c bs r
rounds_sound Round round h zero s c bs r e = absurd (cc)
rounds_sound Round round h (suc n) s c [] r e = absurd (cc)
rounds_sound Round round h (suc n) s c (b ∷ bs) r e =
    let f = next_ok (round s b (past 1 c) bs) _ r e in
    let g = h s b (past 1 c) bs f.0 f.1 in
    round_sound Round round n (rounds_sound Round round h n) s b c bs g.0 f.0.2 f.0.1 f.0.0 r g.1 g.2 f.2

long_sound : (c : Context) (bs : List ℕ) (o : Option (ℤ × List ℕ)) (r : ℤ × Context × List ℕ) → long_of bs ≡ o → long_or c bs o ≡ Ok r → Spelt (Spells long) c bs r
long_sound c bs None r e k = absurd (cc)
long_sound c bs (Some p) r e k =
    let f = long_front bs p.1 p.0 e in
    let q = ok_is (p.0, past (length bs - length p.1) c, p.1) r k in
    let l : length bs - length p.1 ≡ length f.0 = omega (arith, ap length f.2, length-append f.0 p.1) in
    subst (Spelt (Spells long) c bs) q (f.0, (f.1, ap (λ n. past n c) l), f.2)

inside_ok : {A : Type 0} (w : Why) (at : ℕ) (c : Context) (bs : List ℕ) (o : Read A) (r : A × Context × List ℕ) → inside w at c bs o ≡ Ok r → (p : A × Context × List ℕ) × (o ≡ Ok p) × ((p.0, c, bs) ≡ r)
inside_ok w at c bs (Ok p) r e = (p, refl, ok_is (p.0, c, bs) r e)
inside_ok w at c bs (Err q) r e = absurd (cc)

pub sound : {A : Type 0} (g : Grammar A) → IsSpelled (Spells g) (read g)
sound (gives a) c bs r e = subst (Spelt (Spells (gives a)) c bs) (ok_is (a, c, bs) r e) ([], (refl, refl, refl), refl)
sound (refuses w at) c bs r e = absurd (cc)
sound (must b w at) c bs r e =
    let f = choice_ok b (tt, c, bs) r _ e in
    subst (Spelt (Spells (must b w at)) c bs) f.1 ([], (refl, f.0, refl), refl)
sound byte c [] r e = absurd (cc)
sound byte c (b ∷ bs) r e = subst (Spelt (Spells byte) c (b ∷ bs)) (ok_is (b, past 1 c, bs) r e) (b ∷ [], (refl, refl), refl)
sound (bytes n) c bs r e =
    let f = guard_ok (nat_lt (length bs) n) (take n bs, past n c, drop n bs) r _ e in
    let l = less_false (length bs) n f.0 in
    subst (Spelt (Spells (bytes n)) c bs) f.1 (take n bs, (refl, omega (arith, length-take n bs), refl), sym (take-append-drop n bs))
sound long c bs r e = long_sound c bs (long_of bs) r refl e
sound context c bs r e = subst (Spelt (Spells context) c bs) (ok_is (c, c, bs) r e) ([], (refl, refl, refl), refl)
sound (becomes f) c bs r e = subst (Spelt (Spells (becomes f)) c bs) (ok_is (tt, f c, bs) r e) ([], (refl, refl), refl)
sound (within g s w at) c bs r e =
    let f = inside_ok w at c bs (read g opening s) r e in
    let k = sound g opening s f.0 f.1 in
    subst (Spelt (Spells (within g s w at)) c bs) f.2 ([], (refl, (k.0, f.0.2, f.0.1, k.1, k.2), refl), refl)
sound (follows p q) c bs r e =
    let f = next_ok (read p c bs) _ r e in
    let g = sound p c bs f.0 f.1 in
    let h = sound (q f.0.0) f.0.1 f.0.2 r f.2 in
    (g.0 ++ h.0, (f.0.0, g.0, h.0, f.0.1, refl, g.1, h.1), g.2 ∙ ap (λ ys. g.0 ++ ys) h.2 ∙ sym (append_assoc g.0 h.0 r.2))
sound (rounds f s) c bs r e =
    let k = rounds_sound (λ t b. Spells (f t b)) (λ t b. read (f t b)) (λ t b. sound (f t b)) (length bs + 1) s c bs r e in
    (k.0, (length bs + 1, k.1), k.2)
