-- Big integers by their bytes.
use Rattle.std.proofs.Common.{◌≡◌, ℕ, zero, suc, ◌+◌, ◌*◌, ◌<◌, ◌≤◌, ◌^◌, ◌==◌, List, [], ◌∷◌, ◌++◌, length, Bool, true, false, refl, ap, arith, ℤ, pos}
use Rattle.std.specs.Prelude.{if◌then◌else◌, neg_ℤ}
use Rattle.std.proofs.Math.Nat.{pow-succ', pow-le-pow_right}
use Rattle.std.proofs.lemmas.Bool.Decides.{nat_tests}
use Rattle.marshal_grammar.specs.Longs.{little}
use Rattle.marshal_grammar.specs.Values.{is_i128}

pub little-append : (xs ys : List ℕ) → little (xs ++ ys) ≡ little xs + 256 ^ length xs * little ys
little-append [] ys = omega arith
little-append (x ∷ xs) ys = omega (arith, little-append xs ys, ap (λ (p : ℕ). p * little ys) (pow-succ' 256 (length xs)))

-- the number of a sign and a magnitude
abbrev pub of_sign : Bool → ℕ → ℤ
of_sign b m = if b then pos m else neg_ℤ (pos m)

pub above : (b : Bool) (m : ℕ) → 2 ^ 127 < m → is_i128 (of_sign b m) ≡ false
above true m h = grind (arith, nat_tests)
above false zero h = absurd (omega arith)
above false (suc k) h = grind (arith, nat_tests)

pub above_plus : (m : ℕ) → 2 ^ 127 ≤ m → is_i128 (pos m) ≡ false
above_plus m h = grind (arith, nat_tests)

pub below : (b : Bool) (m : ℕ) → m < 2 ^ 127 → is_i128 (of_sign b m) ≡ true
below true m h = grind (arith, nat_tests)
below false zero h = refl
below false (suc k) h = grind (arith, nat_tests)

pub lowest : (m : ℕ) → m ≡ 2 ^ 127 → is_i128 (neg_ℤ (pos m)) ≡ true
lowest m h = rw h refl

pub zero_first : (n : ℕ) → (0 + 256 * n == 0) ≡ (n == 0)
zero_first zero = refl
zero_first (suc n) = grind (arith, nat_tests)

pub pow-small : (n : ℕ) → n ≤ 15 → 256 ^ n ≤ 256 ^ 15
pow-small n h = let p : 0 < 256 = omega arith in pow-le-pow_right p h

pub nonzero_first : (b n : ℕ) → (b ≡ 0 → ⊥) → (b + 256 * n == 0) ≡ false
nonzero_first zero n h = absurd (h refl)
nonzero_first (suc b) n h = grind (arith, nat_tests)

pub room_left : (r n : ℕ) → r < 256 ^ n → n ≤ 15 → 256 * r + 255 < 2 ^ 128
room_left r n h le = omega (arith, pow-small n le)
