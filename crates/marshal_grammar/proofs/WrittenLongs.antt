-- The written spelling of a long is one.
use Rattle.std.proofs.Common.{◌≡◌, ℕ, zero, suc, ◌+◌, ◌-◌, ◌*◌, ◌/◌, ◌^◌, ◌<◌, ◌≤◌, pos, negsuc, ◌-ℤ◌, [], ◌∷◌, length, Bool, true, false, refl, ap, sym, arith, nat_lt, ◌==◌}
use native.Mathlib.Numerals.{unary_clauses}
use Rattle.std.proofs.lemmas.Grind.{common_steps}
use Rattle.marshal_grammar.specs.Longs.{Long, little}
use Rattle.marshal_grammar.specs.Spelled.{bytes_of, fewest, long_from, long_below}
use Rattle.marshal_grammar.proofs.LongLists.{less, not_less, less_true}

pub length_bytes_of : (k n : ℕ) → length (bytes_of k n) ≡ k
length_bytes_of zero n = refl
length_bytes_of (suc k) n = ap suc (length_bytes_of k (n / 256))

power_suc : (k : ℕ) → 256 ^ suc k ≡ 256 * 256 ^ k
power_suc k = simp unary_clauses (omega arith)

pub little_bytes_of : (k n : ℕ) → n < 256 ^ k → little (bytes_of k n) ≡ n
little_bytes_of zero n h = omega arith
little_bytes_of (suc k) n h =
    let l : n / 256 < 256 ^ k = omega (arith, h, power_suc k) in
    rw (little_bytes_of k (n / 256) l) (omega arith)

-- a number below 2^32 has 1 to 4 bytes
fewest_is : (n : ℕ) → n < 2 ^ 32 → (1 ≤ fewest n) × (fewest n ≤ 4) × (n < 256 ^ fewest n)
fewest_is n h = grind (arith, common_steps)

pub minus : (a b m : ℕ) → a + suc m ≡ b → pos a -ℤ pos b ≡ negsuc m
minus a b m e = grind (arith, common_steps)

few_is : (k n : ℕ) → 1 ≤ k → k ≤ 4 → n < 256 ^ k → Long (k ∷ bytes_of k n) (pos n)
few_is k n h l m =
    let a : nat_lt k 5 ≡ true = less k 5 (omega (arith, l)) in
    rw a (length_bytes_of k n, ap (λ i. pos i) (sym (little_bytes_of k n m)))

below_is : (k n m : ℕ) → 1 ≤ k → k ≤ 4 → n < 256 ^ k → n + suc m ≡ 256 ^ k → Long ((256 - k) ∷ bytes_of k n) (negsuc m)
below_is k n m h l b e =
    let c = 256 - k in
    let x : nat_lt c 5 ≡ false = not_less c 5 (omega (arith, l)) in
    let y : nat_lt c 128 ≡ false = not_less c 128 (omega (arith, l)) in
    let z : nat_lt c 252 ≡ false = not_less c 252 (omega (arith, l)) in
    let w : 256 - c ≡ k = omega (arith, l) in
    rw (x, y, z, w) (length_bytes_of k n, rw (little_bytes_of k n b) (sym (minus n (256 ^ k) m e)))

mid_is : (n : ℕ) → n < 123 → (n == 0) ≡ false → Long ((n + 5) ∷ []) (pos n)
mid_is n h e =
    let p : 0 < n = grind (arith, common_steps) in
    let x : nat_lt (n + 5) 5 ≡ false = not_less (n + 5) 5 (omega arith) in
    let y : nat_lt (n + 5) 252 ≡ true = less (n + 5) 252 (omega (arith, h)) in
    let z : nat_lt (n + 5) 128 ≡ true = less (n + 5) 128 (omega (arith, h)) in
    let w : n + 5 - 5 ≡ n = omega arith in
    rw (x, y, z, w) (refl, refl)

zero_is : (n : ℕ) → (n == 0) ≡ true → n ≡ 0
zero_is n e = grind (arith, common_steps)

from_is : (n : ℕ) → n < 2 ^ 32 → (a : Bool) → (n == 0) ≡ a → (b : Bool) → nat_lt n 123 ≡ b → Long (long_from n) (pos n)
from_is n h true e b f = rw (e, zero_is n e) (refl, refl)
from_is n h false e true f = rw (e, f) (mid_is n (less_true n 123 f) e)
from_is n h false e false f = let k = fewest_is n h in rw (e, f) (few_is (fewest n) n k.0 k.1 k.2)

low_is : (m : ℕ) → m < 123 → Long ((250 - m) ∷ []) (negsuc m)
low_is m h =
    let c = 250 - m in
    let x : nat_lt c 5 ≡ false = not_less c 5 (omega (arith, h)) in
    let y : nat_lt c 128 ≡ false = not_less c 128 (omega (arith, h)) in
    let z : nat_lt c 252 ≡ true = less c 252 (omega arith) in
    rw (x, y, z) (refl, sym (minus c 251 m (omega (arith, h))))

under_is : (m : ℕ) → m < 2 ^ 32 → (b : Bool) → nat_lt m 123 ≡ b → Long (long_below m) (negsuc m)
under_is m h true f = rw f (low_is m (less_true m 123 f))
under_is m h false f = let k = fewest_is m h in rw f (below_is (fewest m) (256 ^ fewest m - 1 - m) m k.0 k.1 (omega (arith, k.2)) (omega (arith, k.2)))

pub long_from_is : (n : ℕ) → n < 2 ^ 32 → Long (long_from n) (pos n)
long_from_is n h = from_is n h (n == 0) refl (nat_lt n 123) refl

pub long_below_is : (m : ℕ) → m < 2 ^ 32 → Long (long_below m) (negsuc m)
long_below_is m h = under_is m h (nat_lt m 123) refl
