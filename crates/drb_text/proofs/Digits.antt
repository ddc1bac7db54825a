-- Digits, read one after the other.
use Rattle.std.proofs.Common.{ℕ, ◌≡◌, ◌+◌, ◌-◌, ◌*◌, true, false, List, [], ◌∷◌, refl}
use Rattle.drb_text.specs.Numbers.{goes_on, digits_from}

pub digits_more : (most n b : ℕ) (bs : List ℕ) → goes_on most n b ≡ true → digits_from most n (b ∷ bs) ≡ digits_from most (n * 10 + (b - 48)) bs
digits_more most n b bs h = rw h refl

pub digits_end : (most n b : ℕ) (bs : List ℕ) → goes_on most n b ≡ false → digits_from most n (b ∷ bs) ≡ (n, b ∷ bs)
digits_end most n b bs h = rw h refl
