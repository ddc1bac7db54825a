-- A refusal that is read is one of the grammar, and a refusal of the grammar is read.
use Rattle.std.proofs.Common.{◌≡◌, ℕ, zero, suc, ◌+◌, ◌<◌, ◌⊎◌, inl, inr, ℤ, List, [], ◌∷◌, ◌++◌, length, Option, Some, None, Ok, Err, refl, ap, sym, ◌∙◌, arith, nat_lt, length-append}
use Rattle.marshal_grammar.specs.declared.refusal.Why.{Why}
use Rattle.marshal_grammar.specs.declared.refusal.Refusal.{Refusal}
use Rattle.marshal_grammar.specs.Longs.{NoLong, long_of}
use Rattle.marshal_grammar.specs.Contexts.{Context, opening, past}
use Rattle.marshal_grammar.specs.Grammar.{Grammar, gives, refuses, must, byte, bytes, long, context, becomes, within, follows, rounds, Spelling, Refusing, NoFront, Is, IsShort, MeetsInRounds, Spells, Meets}
use Rattle.marshal_grammar.specs.Reading.{Read, long_or, inside, refuse, read, go_on, in_rounds}
use Rattle.marshal_grammar.proofs.LongLists.{less_true, less, no_long, no_long_is}
use Rattle.marshal_grammar.proofs.Results.{err_is, next_err, choice_err, guard_err}
use Rattle.marshal_grammar.proofs.Complete.{IsRead, complete}
use Rattle.marshal_grammar.proofs.Sound.{IsSpelled, sound}

-- a refusal that is read, is met
abbrev pub IsMet : {A : Type 0} → Refusing → (Context → List ℕ → Read A) → Type 0
IsMet Meet reads = (c : Context) (bs : List ℕ) (r : Refusal) → reads c bs ≡ Err r → Meet c bs r

-- a refusal that is met, is read
abbrev pub IsFound : {A : Type 0} → Refusing → (Context → List ℕ → Read A) → Type 0
IsFound Meet reads = (c : Context) (bs : List ℕ) (r : Refusal) → Meet c bs r → reads c bs ≡ Err r

round_met : {A S : Type 0} (Round : S → ℕ → Spelling (S ⊎ A)) (Meet : S → ℕ → Refusing) (round : S → ℕ → Context → List ℕ → Read (S ⊎ A))
    → (n : ℕ) → ((s : S) (c : Context) (bs : List ℕ) (r : Refusal) → length bs < n → in_rounds round n s c bs ≡ Err r → MeetsInRounds Round Meet n s c bs r)
    → (s : S) (b : ℕ) (c : Context) (bs these rest : List ℕ) (d : Context) (o : S ⊎ A) (r : Refusal) → length (b ∷ bs) < suc n → Round s b (past 1 c) these o d → bs ≡ these ++ rest
    → go_on (in_rounds round n) o d rest ≡ Err r → MeetsInRounds Round Meet (suc n) s c (b ∷ bs) r
round_met Round Meet round n h s b c bs these rest d (inl t) r l f e k =
    let w : length rest < n = omega (arith, ap length e, length-append these rest, l) in
    inr (b, bs, refl, inr (t, these, rest, d, e, f, h t d rest r w k))
round_met Round Meet round n h s b c bs these rest d (inr v) r l f e k = absurd (cc)

rounds_met : {A S : Type 0} (Round : S → ℕ → Spelling (S ⊎ A)) (Meet : S → ℕ → Refusing) (round : S → ℕ → Context → List ℕ → Read (S ⊎ A)) → ((t : S) (b : ℕ) → IsSpelled (Round t b) (round t b)) → ((t : S) (b : ℕ) → IsMet (Meet t b) (round t b))
    → (n : ℕ) (s : S) (c : Context) (bs : List ℕ) (r : Refusal) → length bs < n → in_rounds round n s c bs ≡ Err r → MeetsInRounds Round Meet n s c bs r
rounds_met Round Meet round h m zero s c bs r l e = absurd (omega arith)
rounds_met Round Meet round h m (suc n) s c [] r l e = inl (refl, sym (err_is _ r e))
rounds_met Round Meet round h m (suc n) s c (b ∷ bs) r l e = elim (next_err (round s b (past 1 c) bs) _ r e) [
  | inl f ↦ inr (b, bs, refl, inl (m s b (past 1 c) bs r f))
  | inr f ↦ let g = h s b (past 1 c) bs f.0 f.1 in
      round_met Round Meet round n (rounds_met Round Meet round h m n) s b c bs g.0 f.0.2 f.0.1 f.0.0 r l g.1 g.2 f.2
]

long_met : (c : Context) (bs : List ℕ) (o : Option (ℤ × List ℕ)) (r : Refusal) → long_of bs ≡ o → long_or c bs o ≡ Err r → NoLong bs × IsShort c bs r
long_met c bs None r e k = (no_long bs e, sym (err_is _ r k))
long_met c bs (Some p) r e k = absurd (cc)

inside_met : {A : Type 0} (g : Grammar A) (w : Why) (at : ℕ) (c : Context) (bs s : List ℕ) (o : Read A) (r : Refusal) → read g opening s ≡ o → inside w at c bs o ≡ Err r → NoFront (Spells g) opening s × Is r w at
inside_met g w at c bs s (Ok p) r e k = absurd (cc)
inside_met g w at c bs s (Err q) r e k = (λ v f. let m = complete g opening f.2 f.0 f.1 v f.3 in let j = ap (read g opening) f.4 in absurd (cc), sym (err_is _ r k))

pub met : {A : Type 0} (g : Grammar A) → IsMet (Meets g) (read g)
met (gives a) c bs r e = absurd (cc)
met (refuses w at) c bs r e = sym (err_is _ r e)
met (must b w at) c bs r e = let f = choice_err b (tt, c, bs) _ r e in (f.0, sym f.1)
met byte c [] r e = (refl, sym (err_is _ r e))
met byte c (b ∷ bs) r e = absurd (cc)
met (bytes n) c bs r e = let f = guard_err (nat_lt (length bs) n) _ _ r e in (less_true (length bs) n f.0, sym f.1)
met long c bs r e = long_met c bs (long_of bs) r refl e
met context c bs r e = absurd (cc)
met (becomes f) c bs r e = absurd (cc)
met (within g s w at) c bs r e = inside_met g w at c bs s (read g opening s) r refl e
met (follows p q) c bs r e = elim (next_err (read p c bs) _ r e) [
  | inl f ↦ inl (met p c bs r f)
  | inr f ↦ let g = sound p c bs f.0 f.1 in inr (f.0.0, g.0, f.0.2, f.0.1, g.2, g.1, met (q f.0.0) f.0.1 f.0.2 r f.2)
]
met (rounds f s) c bs r e =
    (length bs + 1, rounds_met (λ t b. Spells (f t b)) (λ t b. Meets (f t b)) (λ t b. read (f t b)) (λ t b. sound (f t b)) (λ t b. met (f t b)) (length bs + 1) s c bs r (omega arith) e)

rounds_found : {A S : Type 0} (Round : S → ℕ → Spelling (S ⊎ A)) (Meet : S → ℕ → Refusing) (round : S → ℕ → Context → List ℕ → Read (S ⊎ A)) → ((t : S) (b : ℕ) → IsRead (Round t b) (round t b)) → ((t : S) (b : ℕ) → IsFound (Meet t b) (round t b))
    → (n m : ℕ) (s : S) (c : Context) (bs : List ℕ) (r : Refusal) → length bs < m → MeetsInRounds Round Meet n s c bs r → in_rounds round m s c bs ≡ Err r
rounds_found Round Meet round h k zero m s c bs r l i = absurd i
rounds_found Round Meet round h k (suc n) zero s c bs r l i = absurd (omega arith)
rounds_found Round Meet round h k (suc n) (suc m) s c bs r l (inl i) = rw (i.1, i.0) refl
rounds_found Round Meet round h k (suc n) (suc m) s c bs r l (inr i) = elim i.3 [
  | inl f ↦ rw (i.2, k s i.0 (past 1 c) i.1 r f) refl
  | inr f ↦
      let j : round s i.0 (past 1 c) i.1 ≡ Ok (inl f.0, f.3, f.2) = rw f.4 (h s i.0 (past 1 c) f.3 f.1 f.2 (inl f.0) f.5) in
      let w : length f.2 < m = omega (arith, l, ap length i.2, ap length f.4, length-append f.1 f.2) in
      rw (i.2, j) (rounds_found Round Meet round h k n m f.0 f.3 f.2 r w f.6)
]

inside_found : {A : Type 0} (g : Grammar A) (w : Why) (at : ℕ) (c : Context) (bs s : List ℕ) (o : Read A) → read g opening s ≡ o → NoFront (Spells g) opening s → inside w at c bs o ≡ refuse {A = A} w at
inside_found g w at c bs s (Err q) e h = refl
inside_found g w at c bs s (Ok p) e h = let f = sound g opening s p e in absurd (h p.0 (f.0, p.2, p.1, f.1, f.2))

pub found : {A : Type 0} (g : Grammar A) → IsFound (Meets g) (read g)
found (gives a) c bs r m = absurd m
found (refuses w at) c bs r m = rw m refl
found (must b w at) c bs r m = rw (m.0, m.1) refl
found byte c bs r m = rw (m.1, m.0) refl
found (bytes n) c bs r m = rw (less (length bs) n m.0, m.1) refl
found long c bs r m = rw (no_long_is bs (long_of bs) refl m.0, m.1) refl
found context c bs r m = absurd m
found (becomes f) c bs r m = absurd m
found (within g s w at) c bs r m = inside_found g w at c bs s (read g opening s) refl m.0 ∙ ap (λ (q : Refusal). Err q) (sym m.1)
found (follows p q) c bs r (inl m) = rw (found p c bs r m) refl
found (follows p q) c bs r (inr m) = rw (m.4, complete p c m.3 m.1 m.2 m.0 m.5) (found (q m.0) m.3 m.2 r m.6)
found (rounds f s) c bs r m =
    rounds_found (λ t b. Spells (f t b)) (λ t b. Meets (f t b)) (λ t b. read (f t b)) (λ t b. complete (f t b)) (λ t b. found (f t b)) m.0 (length bs + 1) s c bs r (omega arith) m.1
