-- No long is spelled in fewer bytes than it is written in.
use Rattle.std.proofs.Common.{◌≡◌, ℕ, zero, suc, ◌+◌, ◌-◌, ◌*◌, ◌^◌, ◌<◌, ◌≤◌, ℤ, pos, ◌-ℤ◌, List, [], ◌∷◌, length, Bool, true, false, refl, ap, sym, ◌∙◌, arith, cond, nat_lt, ◌==◌, subst}
use Rattle.std.proofs.lemmas.List.Elements.{All-head, All-tail}
use native.Mathlib.Numerals.{unary_clauses}
use Rattle.std.proofs.lemmas.Grind.{common_steps}
use Rattle.drb_tree.specs.Kept.{AreBytes}
use Rattle.marshal_grammar.specs.Longs.{Long, little, more_after, long_value}
use Rattle.marshal_grammar.specs.Spelled.{bytes_of, fewest, long_from, long_below, long_bytes}
use Rattle.marshal_grammar.specs.Laws.{ShortestLongs}
use Rattle.marshal_grammar.proofs.LongLists.{less, less_true, less_false}
use Rattle.marshal_grammar.proofs.WrittenLongs.{minus, length_bytes_of, long_from_is, long_below_is}

power_suc : (k : ℕ) → 256 ^ suc k ≡ 256 * 256 ^ k
power_suc k = simp unary_clauses (omega arith)

-- k bytes hold a number below 256 to the power k
pub little_below : (bs : List ℕ) → AreBytes bs → little bs < 256 ^ length bs
little_below [] h = omega arith
little_below (b ∷ bs) h = omega (arith, All-head (λ x. x < 256) b bs h, little_below bs (All-tail (λ x. x < 256) b bs h), power_suc (length bs))

few1 : (n : ℕ) → n < 256 ^ 1 → fewest n ≤ 1
few1 n h = grind (arith, common_steps)

few2 : (n : ℕ) → n < 256 ^ 2 → fewest n ≤ 2
few2 n h = grind (arith, common_steps)

few3 : (n : ℕ) → n < 256 ^ 3 → fewest n ≤ 3
few3 n h = grind (arith, common_steps)

few4 : (n : ℕ) → fewest n ≤ 4
few4 n = grind (arith, common_steps)

-- a number below 256 to the power k needs at most k bytes
few_least : (n k : ℕ) → 1 ≤ k → k ≤ 4 → n < 256 ^ k → fewest n ≤ k
few_least n zero h l m = absurd (omega (arith, h))
few_least n (suc zero) h l m = few1 n m
few_least n (suc (suc zero)) h l m = few2 n m
few_least n (suc (suc (suc zero))) h l m = few3 n m
few_least n (suc (suc (suc (suc k)))) h l m = omega (arith, few4 n)

from_case : (n k : ℕ) (a b : Bool) → fewest n ≤ k → length (cond a (0 ∷ []) (cond b ((n + 5) ∷ []) (fewest n ∷ bytes_of (fewest n) n))) ≤ suc k
from_case n k true b h = omega arith
from_case n k false true h = omega arith
from_case n k false false h = omega (arith, h, length_bytes_of (fewest n) n)

from_few : (n k : ℕ) → fewest n ≤ k → length (long_from n) ≤ suc k
from_few n k h = from_case n k (n == 0) (nat_lt n 123) h

below_case : (n k : ℕ) (b : Bool) → fewest n ≤ k → length (cond b ((250 - n) ∷ []) ((256 - fewest n) ∷ bytes_of (fewest n) (256 ^ fewest n - 1 - n))) ≤ suc k
below_case n k true h = omega arith
below_case n k false h = omega (arith, h, length_bytes_of (fewest n) (256 ^ fewest n - 1 - n))

below_few : (n k : ℕ) → fewest n ≤ k → length (long_below n) ≤ suc k
below_few n k h = below_case n k (nat_lt n 123) h

low_case : (n : ℕ) (a : Bool) → length (cond a (0 ∷ []) ((n + 5) ∷ [])) ≤ 1
low_case n true = omega arith
low_case n false = omega arith

low_from : (n : ℕ) → n < 123 → length (long_from n) ≤ 1
low_from n h = rw (less n 123 h) (low_case n (n == 0))

low_below : (n : ℕ) → n < 123 → length (long_below n) ≤ 1
low_below n h = rw (less n 123 h) (omega arith)

abbrev Shortest : List ℕ → ℤ → Type 0
Shortest b n = Long (long_bytes n) n × (length (long_bytes n) ≤ length b)

powers : (k : ℕ) → k ≤ 4 → 256 ^ k ≤ 2 ^ 32
powers zero h = omega arith
powers (suc zero) h = omega arith
powers (suc (suc zero)) h = omega arith
powers (suc (suc (suc zero))) h = omega arith
powers (suc (suc (suc (suc zero)))) h = omega arith
powers (suc (suc (suc (suc (suc k))))) h = absurd (omega (arith, h))

-- 0 to 4 bytes, and no sign
up : (c : ℕ) (bs : List ℕ) → AreBytes bs → length bs ≡ c → c < 5 → Shortest (c ∷ bs) (pos (little bs))
up zero [] a e h = (long_from_is 0 (omega arith), omega arith)
up zero (b ∷ bs) a e h = absurd (omega (arith, e))
up (suc c) bs a e h =
    let k = little_below bs a in
    let m : little bs < 256 ^ suc c = omega (arith, k, ap (λ n. 256 ^ n) e) in (
      long_from_is (little bs) (omega (arith, m, powers (suc c) (omega (arith, h)))),
      omega (arith, e, from_few (little bs) (suc c) (few_least (little bs) (suc c) (omega arith) (omega (arith, h)) m)),
    )

-- the byte alone
alone : (c : ℕ) (bs : List ℕ) → 5 ≤ c → c < 128 → Shortest (c ∷ bs) (pos (c - 5))
alone c bs h l = (long_from_is (c - 5) (omega (arith, l)), omega (arith, low_from (c - 5) (omega (arith, l))))

-- the byte alone, below 0, or at 0
alone_down : (c : ℕ) (bs : List ℕ) (b : Bool) → nat_lt c 251 ≡ b → 128 ≤ c → c < 252 → Shortest (c ∷ bs) (pos c -ℤ pos 251)
alone_down c bs true e h l =
    let k = less_true c 251 e in
    subst (Shortest (c ∷ bs)) (sym (minus c 251 (250 - c) (omega (arith, k)))) (long_below_is (250 - c) (omega arith), omega (arith, low_below (250 - c) (omega (arith, h))))
alone_down c bs false e h l =
    let k : c ≡ 251 = omega (arith, less_false c 251 e, l) in
    rw k (long_from_is 0 (omega arith), omega arith)

-- 1 to 4 bytes, below 0
down : (c : ℕ) (bs : List ℕ) → AreBytes bs → length bs ≡ 256 - c → 252 ≤ c → c < 256 → Shortest (c ∷ bs) (pos (little bs) -ℤ pos (256 ^ (256 - c)))
down c bs a e h l =
    let k = 256 - c in
    let m : little bs < 256 ^ k = omega (arith, little_below bs a, ap (λ n. 256 ^ n) e) in
    let n = 256 ^ k - 1 - little bs in
    let q : n < 256 ^ k = omega (arith, m) in
    subst (Shortest (c ∷ bs)) (sym (minus (little bs) (256 ^ k) n (omega (arith, m))))
    (long_below_is n (omega (arith, q, powers k (omega (arith, h)))), omega (arith, e, below_few n k (few_least n k (omega (arith, l)) (omega (arith, h)) q)))

more_first : (c : ℕ) → nat_lt c 5 ≡ true → more_after c ≡ c
more_first c x = rw x refl

more_last : (c : ℕ) → nat_lt c 5 ≡ false → nat_lt c 252 ≡ false → more_after c ≡ 256 - c
more_last c x z = rw (x, z) refl

value_first : (c : ℕ) (bs : List ℕ) → nat_lt c 5 ≡ true → long_value c bs ≡ pos (little bs)
value_first c bs x = rw x refl

value_second : (c : ℕ) (bs : List ℕ) → nat_lt c 5 ≡ false → nat_lt c 128 ≡ true → long_value c bs ≡ pos (c - 5)
value_second c bs x y = rw (x, y) refl

value_third : (c : ℕ) (bs : List ℕ) → nat_lt c 5 ≡ false → nat_lt c 128 ≡ false → nat_lt c 252 ≡ true → long_value c bs ≡ pos c -ℤ pos 251
value_third c bs x y z = rw (x, y, z) refl

value_last : (c : ℕ) (bs : List ℕ) → nat_lt c 5 ≡ false → nat_lt c 128 ≡ false → nat_lt c 252 ≡ false → long_value c bs ≡ pos (little bs) -ℤ pos (256 ^ (256 - c))
value_last c bs x y z = rw (x, y, z) refl

more_up : (c : ℕ) (bs : List ℕ) → AreBytes bs → c < 256 → length bs ≡ more_after c → (x : Bool) → nat_lt c 5 ≡ x → (y : Bool) → nat_lt c 128 ≡ y → (z : Bool) → nat_lt c 252 ≡ z → Shortest (c ∷ bs) (long_value c bs)
more_up c bs a h l true x y e z f = subst (Shortest (c ∷ bs)) (sym (value_first c bs x)) (up c bs a (l ∙ more_first c x) (less_true c 5 x))
more_up c bs a h l false x true e z f = subst (Shortest (c ∷ bs)) (sym (value_second c bs x e)) (alone c bs (less_false c 5 x) (less_true c 128 e))
more_up c bs a h l false x false e true f = subst (Shortest (c ∷ bs)) (sym (value_third c bs x e f)) (alone_down c bs (nat_lt c 251) refl (less_false c 128 e) (less_true c 252 f))
more_up c bs a h l false x false e false f = subst (Shortest (c ∷ bs)) (sym (value_last c bs x e f)) (down c bs a (l ∙ more_last c x f) (less_false c 252 f) h)

pub shortest_longs : ShortestLongs
shortest_longs [] n a l = absurd l
shortest_longs (c ∷ bs) n a l = subst (Shortest (c ∷ bs)) (sym l.1) (more_up c bs (All-tail (λ x. x < 256) c bs a) (All-head (λ x. x < 256) c bs a) l.0 (nat_lt c 5) refl (nat_lt c 128) refl (nat_lt c 252) refl)
