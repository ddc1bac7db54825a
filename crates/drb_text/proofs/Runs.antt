-- Runs of bytes at the front.
use Rattle.std.proofs.Common.{ℕ, ◌≡◌, ◌≤◌, ◌<◌, ◌+◌, suc, zero, not, Bool, true, false, List, [], ◌∷◌, length, get_or, cond, refl, sym, ap, ◌∙◌, arith}
use Rattle.std.specs.List.{prefix_len, position_or_len}
use Rattle.std.proofs.lemmas.List.Sums.{position_or_len_is}

not_not : (b : Bool) → not (not b) ≡ b
not_not true = refl
not_not false = refl

same_run : (p : ℕ → Bool) (xs : List ℕ) → prefix_len (λ x. not (not (p x))) xs ≡ prefix_len p xs
same_run p [] = refl
same_run p (x ∷ xs) = rw (not_not (p x), same_run p xs) refl

-- the first that fails is at i, or none does up to there
pub run_is : (p : ℕ → Bool) (xs : List ℕ) (i : ℕ) → i ≤ length xs → ((k : ℕ) → k < i → not (p (get_or xs k 0)) ≡ false) → (i < length xs → not (p (get_or xs i 0)) ≡ true) → i ≡ prefix_len p xs
run_is p xs i l before at = sym (position_or_len_is (λ x. not (p x)) xs i 0 l before at) ∙ same_run p xs
