-- Lists of keys that rise: what is put in, taken out and found by halving.
use Prim.Native.Nat.{zero, suc}
use Rattle.std.proofs.Common.{◌≡◌, ◌≢◌, ◌∙◌, ℕ, ◌+◌, ◌<◌, ◌≤◌, Bool, true, false, List, [], ◌∷◌, length, get_or, refl, ap, Option, Some, None, Result, Ok, Err, arith}
use Rattle.std.specs.Prelude.{◌&&◌, ◌||◌, ◌==◌, not, nat_lt, OnOk, OnErr, OnSome, IsSome, ◌↔◌, if◌then◌else◌}
use Rattle.std.specs.List.{list_all, insert, remove}
use Rattle.std.proofs.lemmas.Bool.Decides.{nat_tests}
use Rattle.rinda_rules.specs.Rows.{rising}
use Rattle.rinda_lease.specs.Stages.{is_in}

abbrev pub rise : List ℕ → Bool
rise keys = rising (λ k. k) keys

all_get : (p : ℕ → Bool) (xs : List ℕ) (j : ℕ) → list_all p xs ≡ true → j < length xs → p (get_or xs j 0) ≡ true
all_get p [] j a b = absurd (omega (arith, b))
all_get p (x ∷ xs) zero a b = grind arith
all_get p (x ∷ xs) (suc j) a b = all_get p xs j (grind arith) (omega (arith, b))

pub all_of_get : (p : ℕ → Bool) (xs : List ℕ) → ((j : ℕ) → j < length xs → p (get_or xs j 0) ≡ true) → list_all p xs ≡ true
all_of_get p [] h = refl
all_of_get p (x ∷ xs) h = grind (arith, h 0 (omega arith), all_of_get p xs (λ j l. h (suc j) (omega (arith, l))))

pub climbs : (xs : List ℕ) → rise xs ≡ true → (i j : ℕ) → i ≤ j → j < length xs → get_or xs i 0 ≤ get_or xs j 0
climbs [] up i j le l = absurd (omega (arith, l))
climbs (x ∷ xs) up zero zero le l = omega arith
climbs (x ∷ xs) up zero (suc j) le l = grind (arith, nat_tests, all_get (λ y. nat_lt x y) xs j)
climbs (x ∷ xs) up (suc i) zero le l = absurd (omega (arith, le))
climbs (x ∷ xs) up (suc i) (suc j) le l = climbs xs (grind arith) i j (omega (arith, le)) (omega (arith, l))

-- Putting in.

all_insert : (p : ℕ → Bool) (xs : List ℕ) (i k : ℕ) → list_all p xs ≡ true → p k ≡ true → list_all p (insert xs i k) ≡ true
all_insert p xs zero k a b = grind arith
all_insert p [] (suc i) k a b = grind arith
all_insert p (x ∷ xs) (suc i) k a b = grind (arith, all_insert p xs i k)

pub rise_insert : (xs : List ℕ) (i k : ℕ) → rise xs ≡ true → i ≤ length xs → ((j : ℕ) → j < i → get_or xs j 0 < k) → ((j : ℕ) → i ≤ j → j < length xs → k < get_or xs j 0) → rise (insert xs i k) ≡ true
rise_insert xs zero k up le low high = grind (arith, nat_tests, all_of_get (λ y. nat_lt k y) xs (λ j l. grind (arith, nat_tests, high j (omega arith) l)))
rise_insert [] (suc i) k up le low high = absurd (omega (arith, le))
rise_insert (x ∷ xs) (suc i) k up le low high =
    let under : x < k = low 0 (omega arith) in
    let rest : rise (insert xs i k) ≡ true = rise_insert xs i k (grind arith) (omega (arith, le)) (λ j l. low (suc j) (omega (arith, l))) (λ j a b. high (suc j) (omega (arith, a)) (omega (arith, b))) in
    grind (arith, nat_tests, all_insert (λ y. nat_lt x y) xs i k)

pub is_in-insert : (q : ℕ) (xs : List ℕ) (i k : ℕ) → is_in q (insert xs i k) ≡ (q == k || is_in q xs)
is_in-insert q xs zero k = grind (arith, nat_tests)
is_in-insert q [] (suc i) k = grind (arith, nat_tests)
is_in-insert q (x ∷ xs) (suc i) k = grind (arith, nat_tests, is_in-insert q xs i k)

-- Taking out.

all_remove : (p : ℕ → Bool) (xs : List ℕ) (i : ℕ) → list_all p xs ≡ true → list_all p (remove xs i) ≡ true
all_remove p [] zero a = refl
all_remove p [] (suc i) a = refl
all_remove p (x ∷ xs) zero a = grind arith
all_remove p (x ∷ xs) (suc i) a = grind (arith, all_remove p xs i)

pub rise_remove : (xs : List ℕ) (i : ℕ) → rise xs ≡ true → rise (remove xs i) ≡ true
rise_remove [] zero up = refl
rise_remove [] (suc i) up = refl
rise_remove (x ∷ xs) zero up = grind arith
rise_remove (x ∷ xs) (suc i) up = grind (arith, all_remove (λ y. nat_lt x y) xs i, rise_remove xs i)

pub is_in-above : (x : ℕ) (xs : List ℕ) → list_all (λ y. nat_lt x y) xs ≡ true → is_in x xs ≡ false
is_in-above x [] a = refl
is_in-above x (y ∷ ys) a = grind (arith, nat_tests, is_in-above x ys)

pub is_in-remove : (q : ℕ) (xs : List ℕ) (i k : ℕ) → rise xs ≡ true → i < length xs → get_or xs i 0 ≡ k → is_in q (remove xs i) ≡ (not (q == k) && is_in q xs)
is_in-remove q [] i k up l at = absurd (omega (arith, l))
is_in-remove q (x ∷ xs) zero k up l at = grind (arith, nat_tests, is_in-above x xs)
is_in-remove q (x ∷ xs) (suc i) k up l at =
    both (x == q) (q == k) (is_in q xs) (is_in q (remove xs i)) apart (is_in-remove q xs i k (grind arith) (omega (arith, l)) at)
  where
    apart : (x == q && q == k) ≡ false
    apart = grind (arith, nat_tests, all_get (λ y. nat_lt x y) xs i)

    both : (b c d r : Bool) → (b && c) ≡ false → r ≡ (not c && d) → (b || r) ≡ (not c && (b || d))
    both b c d r e f = grind arith

-- Finding.

pub is_in-at : (xs : List ℕ) (i x : ℕ) → i < length xs → get_or xs i 0 ≡ x → is_in x xs ≡ true
is_in-at [] i x l at = absurd (omega (arith, l))
is_in-at (y ∷ xs) zero x l at = grind (arith, nat_tests)
is_in-at (y ∷ xs) (suc i) x l at = grind (arith, nat_tests, is_in-at xs i x)

is_in-none : (x : ℕ) (xs : List ℕ) → ((j : ℕ) → j < length xs → get_or xs j 0 ≢ x) → is_in x xs ≡ false
is_in-none x [] h = refl
is_in-none x (y ∷ xs) h =
    let ne : y ≢ x = h 0 (omega arith) in
    grind (arith, nat_tests, is_in-none x xs (λ j l. h (suc j) (omega (arith, l))))

pub is_in-between : (xs : List ℕ) (i x : ℕ) → ((j : ℕ) → j < i → get_or xs j 0 < x) → ((j : ℕ) → i ≤ j → j < length xs → x < get_or xs j 0) → is_in x xs ≡ false
is_in-between xs i x low high = is_in-none x xs (λ j l e. apart j l e (nat_lt j i) refl)
  where
    apart : (j : ℕ) → j < length xs → get_or xs j 0 ≡ x → (b : Bool) → nat_lt j i ≡ b → ⊥
    apart j l e true t = let lt : j < i = grind (arith, nat_tests) in omega (arith, low j lt, e)
    apart j l e false t = let le : i ≤ j = grind (arith, nat_tests) in omega (arith, high j le l, e)

-- what is there already, and what is not
pub is_in-again : (q k : ℕ) (xs : List ℕ) → is_in k xs ≡ true → is_in q xs ≡ (q == k || is_in q xs)
is_in-again q k xs there = by_test (q == k) refl
  where
    by_test : (b : Bool) → (q == k) ≡ b → is_in q xs ≡ (b || is_in q xs)
    by_test true e = ap (λ x. is_in x xs) (let same : q ≡ k = grind (arith, nat_tests) in same) ∙ there
    by_test false e = refl

pub is_in-never : (q k : ℕ) (xs : List ℕ) → is_in k xs ≡ false → is_in q xs ≡ (not (q == k) && is_in q xs)
is_in-never q k xs none = by_test (q == k) refl
  where
    by_test : (b : Bool) → (q == k) ≡ b → is_in q xs ≡ (not b && is_in q xs)
    by_test true e = ap (λ x. is_in x xs) (let same : q ≡ k = grind (arith, nat_tests) in same) ∙ none
    by_test false e = refl

-- an insertion that has room
pub inserted : {A B : Type 0} (r : Result A B) (xs ys : List ℕ) (capacity len : ℕ) → OnOk r (ys ≡ xs) → OnErr r (capacity ≤ len) → len < capacity → ys ≡ xs
inserted (Ok a) xs ys capacity len e f l = e
inserted (Err b) xs ys capacity len e f l = absurd (omega (arith, f, l))

-- the first of keys that rise is the least
pub first_is_least : (x q : ℕ) (xs : List ℕ) → rise (x ∷ xs) ≡ true → is_in q (x ∷ xs) ≡ true → x ≤ q
first_is_least x q xs up there = grind (arith, nat_tests, above q xs)
  where
    above : (q : ℕ) (ys : List ℕ) → list_all (λ y. nat_lt x y) ys ≡ true → is_in q ys ≡ true → x < q
    above q [] a b = cc
    above q (y ∷ ys) a b = grind (arith, nat_tests, above q ys)

-- a removal within the list
pub removed : {A : Type 0} (r : Option A) (xs ys : List ℕ) (i len : ℕ) → OnSome r (ys ≡ xs) → (IsSome r ↔ (i < len)) → i < len → ys ≡ xs
removed (Some a) xs ys i len e f l = e
removed None xs ys i len e f l = let no : false ≡ true = f.1 l in cc

pub length-removed : {A : Type 0} (r : Option A) (xs ys : List ℕ) (i k len : ℕ) → OnSome r (ys ≡ remove xs i) → (IsSome r ↔ (i < len)) → i < len → i < length xs → get_or xs i 0 ≡ k → length ys + (if is_in k xs then 1 else 0) ≡ length xs
length-removed r xs ys i k len e f b l at =
    rw (removed r (remove xs i) ys i len e f b, is_in-at xs i k l at) (shorter xs i l)
  where
    shorter : (xs : List ℕ) (i : ℕ) → i < length xs → length (remove xs i) + 1 ≡ length xs
    shorter [] i l = absurd (omega (arith, l))
    shorter (x ∷ xs) zero l = grind arith
    shorter (x ∷ xs) (suc i) l = grind (arith, shorter xs i)
