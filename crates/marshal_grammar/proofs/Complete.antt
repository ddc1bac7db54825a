-- What is spelled is read, whatever follows it.
use Rattle.std.proofs.Common.{◌≡◌, ℕ, zero, suc, ◌+◌, ◌-◌, ◌<◌, ◌⊎◌, inl, inr, List, ◌++◌, length, Ok, refl, ap, arith, length-append, append_assoc}
use Rattle.marshal_grammar.specs.Contexts.{Context, opening, past}
use Rattle.marshal_grammar.specs.Grammar.{Grammar, gives, refuses, must, byte, bytes, long, context, becomes, within, follows, rounds, Spelling, InRounds, Spells}
use Rattle.marshal_grammar.specs.Reading.{Read, read, in_rounds}
use Rattle.marshal_grammar.proofs.LongLists.{long_again, not_less, take_seam, drop_seam}

-- what is spelled, is read
abbrev pub IsRead : {A : Type 0} → Spelling A → (Context → List ℕ → Read A) → Type 0
IsRead {A = A} S reads = (c d : Context) (bs rest : List ℕ) (v : A) → S c bs v d → reads c (bs ++ rest) ≡ Ok (v, d, rest)

rounds_complete : {A S : Type 0} (Round : S → ℕ → Spelling (S ⊎ A)) (round : S → ℕ → Context → List ℕ → Read (S ⊎ A)) → ((t : S) (b : ℕ) → IsRead (Round t b) (round t b))
    → (n m : ℕ) (s : S) (c d : Context) (bs rest : List ℕ) (v : A) → InRounds Round n s c bs v d → length (bs ++ rest) < m → in_rounds round m s c (bs ++ rest) ≡ Ok (v, d, rest)
rounds_complete Round round h zero m s c d bs rest v i l = absurd i
rounds_complete Round round h (suc n) zero s c d bs rest v i l = absurd (omega arith)
rounds_complete Round round h (suc n) (suc m) s c d bs rest v i l = elim i.3 [
  | inl f ↦ rw (i.2, h s i.0 (past 1 c) d i.1 rest (inr v) f) refl
  | inr f ↦
      let k : round s i.0 (past 1 c) (i.1 ++ rest) ≡ Ok (inl f.0, f.3, f.2 ++ rest) = rw (f.4, append_assoc) (h s i.0 (past 1 c) f.3 f.1 (f.2 ++ rest) (inl f.0) f.5) in
      let w : length (f.2 ++ rest) < m = omega (arith, ap length i.2, ap length f.4, length-append bs rest, length-append f.1 f.2, length-append f.2 rest) in
      rw (i.2, k) (rounds_complete Round round h n m f.0 f.3 d f.2 rest v f.6 w)
]

pub complete : {A : Type 0} (g : Grammar A) → IsRead (Spells g) (read g)
complete (gives a) c d bs rest v s = rw (s.0, s.1, s.2) refl
complete (refuses w at) c d bs rest v s = absurd s
complete (must b w at) c d bs rest v s = rw (s.0, s.1, s.2) refl
complete byte c d bs rest v s = rw (s.0, s.1) refl
complete (bytes n) c d bs rest v s =
    rw (s.0, s.2, not_less (length (v ++ rest)) n (omega (arith, length-append v rest, s.1)), take_seam v rest n s.1, drop_seam v rest n s.1) refl
complete long c d bs rest v s =
    let l : length (bs ++ rest) - length rest ≡ length bs = omega (arith, length-append bs rest) in
    rw (s.1, long_again bs rest v s.0, l) refl
complete context c d bs rest v s = rw (s.0, s.1, s.2) refl
complete (becomes f) c d bs rest v s = rw (s.0, s.1) refl
complete (within g s w at) c d bs rest v h =
    let f = h.1 in
    rw (h.0, h.2, f.4, complete g opening f.2 f.0 f.1 v f.3) refl
complete (follows p q) c d bs rest v s =
    rw (s.4, append_assoc, complete p c s.3 s.1 (s.2 ++ rest) s.0 s.5, complete (q s.0) s.3 d s.2 rest v s.6) refl
complete (rounds f s) c d bs rest v i =
    rounds_complete (λ t b. Spells (f t b)) (λ t b. read (f t b)) (λ t b. complete (f t b)) i.0 (length (bs ++ rest) + 1) s c d bs rest v i.1 (omega arith)
