-- The bytes of numbers.
use Rattle.std.proofs.Common.{◌≡◌, ℕ, zero, suc, ◌+◌, ◌-◌, ◌*◌, ◌/◌, ◌%◌, ◌^◌, ◌≤◌, List, ◌∷◌, take, ℤ, pos, negsuc, refl, sym, ap, ◌∙◌, arith, pow-suc, div-one, true, false, nat_lt}
use Rattle.std.proofs.lemmas.Nat.{shr-shr, pow-add}
use Rattle.std.proofs.lemmas.Bool.Decides.{nat_tests}
use lib.Signed.{lt_z}
use Rattle.std.specs.Int.{bytes_low_first, byte_at}
use Rattle.std.specs.Prelude.{unsigned_abs}
use Rattle.marshal_grammar.specs.Spelled.{bytes_of}

pow256 : (i : ℕ) → 256 ^ i ≡ 2 ^ (8 * i)
pow256 zero = refl
pow256 (suc i) = pow-suc 256 i ∙ ap (λ (x : ℕ). x * 256) (pow256 i) ∙ sym (pow-add 2 (8 * i) 8) ∙ ap (λ (k : ℕ). 2 ^ k) (let e : 8 * i + 8 ≡ 8 * suc i = omega arith in e)

div_256 : (i n : ℕ) → n / 256 ^ i / 256 ≡ n / 256 ^ suc i
div_256 i n = ap (λ (p : ℕ). n / p / 256) (pow256 i) ∙ shr-shr n (8 * i) 8 ∙ ap (λ (k : ℕ). n / 2 ^ k) (let e : 8 * i + 8 ≡ 8 * suc i = omega arith in e) ∙ ap (λ (p : ℕ). n / p) (sym (pow256 (suc i)))

byte_at_is : (i n : ℕ) → byte_at i n ≡ (n / 256 ^ i) % 256
byte_at_is zero n = ap (λ (m : ℕ). m % 256) (sym (div-one n))
byte_at_is (suc i) n = refl

none_below : (n : ℕ) → nat_lt n 0 ≡ true → ⊥
none_below n h = grind (arith, nat_tests)

cons_is : (a b : ℕ) (xs ys : List ℕ) → a ≡ b → xs ≡ ys → a ∷ xs ≡ b ∷ ys
cons_is a b xs ys e f = cc

take-low : (k i m n : ℕ) → k ≤ m → take k (bytes_low_first i m n) ≡ bytes_of k (n / 256 ^ i)
take-low zero i m n h = refl
take-low (suc k) i zero n h = absurd (omega arith)
take-low (suc k) i (suc m) n h =
    cons_is _ _ _ _ (byte_at_is i n) (take-low k (suc i) m n (omega arith) ∙ ap (bytes_of k) (sym (div_256 i n)))

-- the first k bytes of a number, the least first
pub take-bytes_low_first : (k m n : ℕ) → k ≤ m → take k (bytes_low_first 0 m n) ≡ bytes_of k n
take-bytes_low_first k m n h = take-low k 0 m n h ∙ ap (bytes_of k) (div-one n)

-- a negative integer, from its magnitude
pub negative_is : (n : ℤ) → lt_z n (pos 0) ≡ true → negsuc (unsigned_abs n - 1) ≡ n
negative_is (pos n) h = absurd (none_below n h)
negative_is (negsuc n) h = ap negsuc (let e : suc n - 1 ≡ n = omega arith in e)

-- another one
pub positive_is : (n : ℤ) → lt_z n (pos 0) ≡ false → pos (unsigned_abs n) ≡ n
positive_is (pos n) h = refl
positive_is (negsuc n) h = absurd (cc)
