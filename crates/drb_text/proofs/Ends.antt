-- What stands behind a text: nothing, `,` or `]`.
use Rattle.std.proofs.Common.{ℕ, ◌≡◌, ◌⊎◌, ◌==◌, false, List, [], ◌∷◌, refl, sym, subst}
use Rattle.std.proofs.Common.{inl, inr}
use Rattle.std.specs.Char.{is_ascii_digit}

abbrev pub Ends : List ℕ → Type 0
Ends [] = Unit {0}
Ends (b ∷ bs) = (b ≡ 44) ⊎ (b ≡ 93)

pub by_end : (P : List ℕ → Type 0) → P [] → ((bs : List ℕ) → P (44 ∷ bs)) → ((bs : List ℕ) → P (93 ∷ bs)) → (rest : List ℕ) → Ends rest → P rest
by_end P n c b [] e = n
by_end P n c b (x ∷ xs) (inl e) = subst (λ (y : ℕ). P (y ∷ xs)) (sym e) (c xs)
by_end P n c b (x ∷ xs) (inr e) = subst (λ (y : ℕ). P (y ∷ xs)) (sym e) (b xs)

-- a text that begins with no `[`, no `]` and no space
abbrev pub Opens : List ℕ → Type 0
Opens [] = ⊥
Opens (b ∷ bs) = ((b == 91) ≡ false) × ((b == 93) ≡ false) × ((b == 32) ≡ false)

-- no digit comes next
abbrev pub NoDigit : List ℕ → Type 0
NoDigit [] = Unit {0}
NoDigit (b ∷ bs) = is_ascii_digit b ≡ false

pub no_digit : (rest : List ℕ) → Ends rest → NoDigit rest
no_digit = by_end NoDigit tt (λ bs. refl) (λ bs. refl)
