-- How many rows have an id, after a change.
use Rattle.std.proofs.Common.{◌≡◌, ℕ, zero, suc, ◌+◌, ◌≤◌, List, [], ◌∷◌, ◌++◌, map, length, drop, ◌-◌, Some, refl, arith, length-drop}
use Rattle.std.specs.Prelude.{◌==◌, if◌then◌else◌}
use Rattle.std.proofs.lemmas.Bool.Decides.{nat_tests}
use Rattle.rinda_rules.specs.declared.plain.Ended.{Ended}
use Rattle.rinda_rules.specs.Rows.{row_of, changed, without}
use Rattle.rinda_rules.specs.Space.{retained}
use Rattle.rinda_rules.specs.Sound.{named}

-- 1 where both ids are the same
abbrev pub one_at : ℕ → ℕ → ℕ
one_at a b = if a == b then 1 else 0

pub named_map : {R : Type 0} (key : R → ℕ) (id : ℕ) (f : R → R) (xs : List R) → ((x : R) → key (f x) ≡ key x) → named key id (map f xs) ≡ named key id xs
named_map key id f [] keeps = refl
named_map key id f (x ∷ xs) keeps = grind (arith, nat_tests, keeps x, named_map key id f xs keeps)

pub named_changed : {R : Type 0} (key : R → ℕ) (id q : ℕ) (f : R → R) (xs : List R) → ((x : R) → key (f x) ≡ key x) → named key id (changed key q f xs) ≡ named key id xs
named_changed key id q f [] keeps = refl
named_changed key id q f (x ∷ xs) keeps = grind (arith, nat_tests, keeps x, named_changed key id q f xs keeps)

pub named_push : {R : Type 0} (key : R → ℕ) (id : ℕ) (xs : List R) (x : R) → named key id (xs ++ x ∷ []) ≡ named key id xs + one_at (key x) id
named_push key id [] x = grind (arith, nat_tests)
named_push key id (y ∷ ys) x = grind (arith, nat_tests, named_push key id ys x)

named_without-le : {R : Type 0} (key : R → ℕ) (id q : ℕ) (xs : List R) → named key id (without key q xs) ≤ named key id xs
named_without-le key id q [] = omega arith
named_without-le key id q (x ∷ xs) = grind (arith, nat_tests, named_without-le key id q xs)

-- a row that was there has left
pub named_leaves : {R : Type 0} (key : R → ℕ) (id q : ℕ) (xs : List R) (r : R) → row_of key q xs ≡ Some r → named key id (without key q xs) + one_at q id ≤ named key id xs
named_leaves key id q [] r there = cc
named_leaves key id q (x ∷ xs) r there = grind (arith, nat_tests, named_without-le key id q xs, named_leaves key id q xs r)

named_drop : {R : Type 0} (key : R → ℕ) (id n : ℕ) (xs : List R) → named key id (drop n xs) ≤ named key id xs
named_drop key id zero xs = omega arith
named_drop key id (suc n) [] = omega arith
named_drop key id (suc n) (x ∷ xs) = grind (arith, nat_tests, named_drop key id n xs)

-- one more has ended, and none but the last are kept
pub named_ended : (id : ℕ) (es : List Ended) (e : Ended) → named (λ (e : Ended). e.id) id (retained (es ++ e ∷ [])) ≤ named (λ (e : Ended). e.id) id es + one_at e.id id
named_ended id es e =
    let less : named (λ (e : Ended). e.id) id (retained (es ++ e ∷ [])) ≤ named (λ (e : Ended). e.id) id (es ++ e ∷ []) = named_drop (λ (e : Ended). e.id) id (length (es ++ e ∷ []) - 4096) (es ++ e ∷ []) in
    let all : named (λ (e : Ended). e.id) id (es ++ e ∷ []) ≡ named (λ (e : Ended). e.id) id es + one_at e.id id = named_push (λ (e : Ended). e.id) id es e in
    grind arith

pub retained_few : (es : List Ended) → length (retained es) ≤ 4096
retained_few es = few (length es) 4096 (length (retained es)) (length-drop (length es - 4096) es)
  where
    few : (a b c : ℕ) → c ≡ a - (a - b) → c ≤ b
    few a b c e = omega arith
