-- Rounds, one after the other.
use Rattle.std.proofs.Common.{◌≡◌, ℕ, zero, suc, ◌+◌, ◌<◌, ◌≤◌, ◌⊎◌, inl, inr, List, [], ◌∷◌, length, Ok, Err, refl, ap, ◌∙◌, arith, length-append}
use Rattle.marshal_grammar.specs.Contexts.{Context, past}
use Rattle.marshal_grammar.specs.Grammar.{Grammar, rounds}
use Rattle.marshal_grammar.specs.Reading.{Read, next, go_on, in_rounds, read}
use Rattle.marshal_grammar.proofs.Sound.{sound}

module _ {A S : Type 0} (f : S → ℕ → Grammar (S ⊎ A)) where
  abbrev each_round : S → ℕ → Context → List ℕ → Read (S ⊎ A)
  each_round t b = read (f t b)

  same_go : (m n : ℕ) → ((s : S) (c : Context) (bs : List ℕ) → length bs < m → length bs < n → in_rounds each_round m s c bs ≡ in_rounds each_round n s c bs)
      → (s : S) (b : ℕ) (c : Context) (bs : List ℕ) → length (b ∷ bs) < suc m → length (b ∷ bs) < suc n → (r : Read (S ⊎ A)) → each_round s b (past 1 c) bs ≡ r
      → next r (go_on (in_rounds each_round m)) ≡ next r (go_on (in_rounds each_round n))
  same_go m n h s b c bs k l (Err e) i = refl
  same_go m n h s b c bs k l (Ok (inr v, d, rest)) i = refl
  same_go m n h s b c bs k l (Ok (inl t, d, rest)) i =
      let g = sound (f s b) (past 1 c) bs (inl t, d, rest) i in
      let w : length rest ≤ length bs = omega (arith, ap length g.2, length-append g.0 rest) in
      h t d rest (omega (arith, w, k)) (omega (arith, w, l))

  same_rounds : (m n : ℕ) (s : S) (c : Context) (bs : List ℕ) → length bs < m → length bs < n → in_rounds each_round m s c bs ≡ in_rounds each_round n s c bs
  same_rounds zero n s c bs k l = absurd (omega (arith, k))
  same_rounds (suc m) zero s c bs k l = absurd (omega (arith, l))
  same_rounds (suc m) (suc n) s c [] k l = refl
  same_rounds (suc m) (suc n) s c (b ∷ bs) k l = same_go m n (same_rounds m n) s b c bs k l (each_round s b (past 1 c) bs) refl

  again_go : (n : ℕ) (s : S) (b : ℕ) (c : Context) (bs : List ℕ) → length bs < n → (r : Read (S ⊎ A)) → each_round s b (past 1 c) bs ≡ r
      → next r (go_on (in_rounds each_round n)) ≡ next r (go_on (λ t. read (rounds f t)))
  again_go n s b c bs k (Err e) i = refl
  again_go n s b c bs k (Ok (inr v, d, rest)) i = refl
  again_go n s b c bs k (Ok (inl t, d, rest)) i =
      let g = sound (f s b) (past 1 c) bs (inl t, d, rest) i in
      let w : length rest ≤ length bs = omega (arith, ap length g.2, length-append g.0 rest) in
      same_rounds n (length rest + 1) t d rest (omega (arith, w, k)) (omega arith)

  -- rounds are one round and, where it is not the last, rounds again
  pub rounds_read : (s : S) (b : ℕ) (c : Context) (bs : List ℕ) → read (rounds f s) c (b ∷ bs) ≡ next (read (f s b) (past 1 c) bs) (go_on (λ t. read (rounds f t)))
  rounds_read s b c bs =
      same_rounds (length (b ∷ bs) + 1) (suc (length bs + 1)) s c (b ∷ bs) (omega arith) (omega arith)
      ∙ again_go (length bs + 1) s b c bs (omega arith) (read (f s b) (past 1 c) bs) refl
