-- Lists of rows: each row, and the row with an id, after a change.
use Rattle.std.proofs.Common.{◌≡◌, ◌≢◌, ℕ, ◌+◌, Bool, true, ltb, List, [], ◌∷◌, ◌++◌, map, Some, None, refl, arith}
use Rattle.std.specs.Prelude.{filter, if◌then◌else◌, ◌==◌}
use Rattle.std.specs.List.{list_all}
use Rattle.std.proofs.lemmas.Bool.Decides.{nat_tests}
use Rattle.rinda_rules.specs.Rows.{row_of, changed, without, rising, numbered}

pub all_imp : {R : Type 0} (p q : R → Bool) → ((x : R) → p x ≡ true → q x ≡ true) → (xs : List R) → list_all p xs ≡ true → list_all q xs ≡ true
all_imp p q h [] e = refl
all_imp p q h (x ∷ xs) e = grind (arith, nat_tests, h x, all_imp p q h xs)

pub all_map : {R : Type 0} (p : R → Bool) (f : R → R) (xs : List R) → list_all p (map f xs) ≡ list_all (λ x. p (f x)) xs
all_map p f [] = refl
all_map p f (x ∷ xs) = grind (arith, nat_tests, all_map p f xs)

pub all_filter : {R : Type 0} (p q : R → Bool) (xs : List R) → list_all p xs ≡ true → list_all p (filter q xs) ≡ true
all_filter p q [] e = refl
all_filter p q (x ∷ xs) e = grind (arith, nat_tests, all_filter p q xs)

pub all_of_filter : {R : Type 0} (q : R → Bool) (xs : List R) → list_all q (filter q xs) ≡ true
all_of_filter q [] = refl
all_of_filter q (x ∷ xs) = grind (arith, nat_tests, all_of_filter q xs)

pub all_append : {R : Type 0} (p : R → Bool) (xs ys : List R) → list_all p xs ≡ true → list_all p ys ≡ true → list_all p (xs ++ ys) ≡ true
all_append p [] ys e f = f
all_append p (x ∷ xs) ys e f = grind (arith, nat_tests, all_append p xs ys)

pub row_changed : {R : Type 0} (key : R → ℕ) (id : ℕ) (f : R → R) (q : ℕ) (xs : List R) → q ≢ id → ((x : R) → key (f x) ≡ key x) → row_of key q (changed key id f xs) ≡ row_of key q xs
row_changed key id f q [] ne keeps = refl
row_changed key id f q (x ∷ xs) ne keeps = grind (arith, nat_tests, keeps x, row_changed key id f q xs ne keeps)

pub row_without : {R : Type 0} (key : R → ℕ) (id : ℕ) (q : ℕ) (xs : List R) → q ≢ id → row_of key q (without key id xs) ≡ row_of key q xs
row_without key id q [] ne = refl
row_without key id q (x ∷ xs) ne = grind (arith, nat_tests, row_without key id q xs ne)

pub all_true : {R : Type 0} (p : R → Bool) → ((x : R) → p x ≡ true) → (xs : List R) → list_all p xs ≡ true
all_true p h [] = refl
all_true p h (x ∷ xs) = grind (arith, nat_tests, h x, all_true p h xs)

-- the row that is found has that id
pub row_has_id : {R : Type 0} (key : R → ℕ) (id : ℕ) (xs : List R) (r : R) → row_of key id xs ≡ Some r → key r ≡ id
row_has_id key id [] r e = cc
row_has_id key id (x ∷ xs) r e = grind (arith, nat_tests, row_has_id key id xs r)

pub row_changed_here : {R : Type 0} (key : R → ℕ) (id : ℕ) (f : R → R) (xs : List R) (r : R) → ((x : R) → key (f x) ≡ key x) → row_of key id xs ≡ Some r → row_of key id (changed key id f xs) ≡ Some (f r)
row_changed_here key id f [] r keeps e = cc
row_changed_here key id f (x ∷ xs) r keeps e = grind (arith, nat_tests, keeps x, row_changed_here key id f xs r keeps)

-- a row that is there stays found when rows come behind
pub row_append : {R : Type 0} (key : R → ℕ) (id : ℕ) (xs ys : List R) (r : R) → row_of key id xs ≡ Some r → row_of key id (xs ++ ys) ≡ Some r
row_append key id [] ys r e = cc
row_append key id (x ∷ xs) ys r e = grind (arith, nat_tests, row_append key id xs ys r)

-- a change of every row that keeps the ids
pub row_map : {R : Type 0} (key : R → ℕ) (id : ℕ) (f : R → R) (xs : List R) (r : R) → ((x : R) → key (f x) ≡ key x) → row_of key id xs ≡ Some r → row_of key id (map f xs) ≡ Some (f r)
row_map key id f [] r keeps e = cc
row_map key id f (x ∷ xs) r keeps e = grind (arith, nat_tests, keeps x, row_map key id f xs r keeps)

pub all_changed : {R : Type 0} (p : R → Bool) (key : R → ℕ) (id : ℕ) (f : R → R) (xs : List R) → ((x : R) → p x ≡ true → p (f x) ≡ true) → list_all p xs ≡ true → list_all p (changed key id f xs) ≡ true
all_changed p key id f [] h e = refl
all_changed p key id f (x ∷ xs) h e = grind (arith, nat_tests, h x, all_changed p key id f xs h)

-- Rows in rising id.

none_later : {R : Type 0} (key : R → ℕ) (id : ℕ) (f : R → R) (xs : List R) → list_all (λ y. ltb id (key y)) xs ≡ true → changed key id f xs ≡ xs
none_later key id f [] e = refl
none_later key id f (x ∷ xs) e = grind (arith, nat_tests, none_later key id f xs)

-- a change of the one row with that id
pub all_changed_one : {R : Type 0} (p : R → Bool) (key : R → ℕ) (id : ℕ) (f : R → R) (xs : List R) (r : R) → rising key xs ≡ true → row_of key id xs ≡ Some r → p (f r) ≡ true → list_all p xs ≡ true → list_all p (changed key id f xs) ≡ true
all_changed_one p key id f [] r up there new e = refl
all_changed_one p key id f (x ∷ xs) r up there new e = grind (arith, nat_tests, none_later key id f xs, all_changed_one p key id f xs r)

later_map : {R : Type 0} (key : R → ℕ) (n : ℕ) (f : R → R) (xs : List R) → ((x : R) → key (f x) ≡ key x) → list_all (λ y. ltb n (key y)) xs ≡ true → list_all (λ y. ltb n (key y)) (map f xs) ≡ true
later_map key n f [] keeps e = refl
later_map key n f (x ∷ xs) keeps e = grind (arith, nat_tests, keeps x, later_map key n f xs keeps)

below_map : {R : Type 0} (key : R → ℕ) (n : ℕ) (f : R → R) (xs : List R) → ((x : R) → key (f x) ≡ key x) → list_all (λ y. ltb (key y) n) xs ≡ true → list_all (λ y. ltb (key y) n) (map f xs) ≡ true
below_map key n f [] keeps e = refl
below_map key n f (x ∷ xs) keeps e = grind (arith, nat_tests, keeps x, below_map key n f xs keeps)

pub rising-map : {R : Type 0} (key : R → ℕ) (f : R → R) (xs : List R) → ((x : R) → key (f x) ≡ key x) → rising key xs ≡ true → rising key (map f xs) ≡ true
rising-map key f [] keeps e = refl
rising-map key f (x ∷ xs) keeps e = grind (arith, nat_tests, keeps x, later_map key (key x) f xs keeps, rising-map key f xs keeps)

pub rising-filter : {R : Type 0} (key : R → ℕ) (q : R → Bool) (xs : List R) → rising key xs ≡ true → rising key (filter q xs) ≡ true
rising-filter key q [] e = refl
rising-filter key q (x ∷ xs) e = grind (arith, nat_tests, all_filter (λ y. ltb (key x) (key y)) q xs, rising-filter key q xs)

pub numbered-map : {R : Type 0} (key : R → ℕ) (n : ℕ) (f : R → R) (xs : List R) → ((x : R) → key (f x) ≡ key x) → numbered key n xs ≡ true → numbered key n (map f xs) ≡ true
numbered-map key n f xs keeps e = grind (arith, nat_tests, rising-map key f xs keeps, below_map key n f xs keeps)

pub numbered-filter : {R : Type 0} (key : R → ℕ) (n : ℕ) (q : R → Bool) (xs : List R) → numbered key n xs ≡ true → numbered key n (filter q xs) ≡ true
numbered-filter key n q xs e = grind (arith, nat_tests, rising-filter key q xs, all_filter (λ y. ltb (key y) n) q xs)

changed_id : {R : Type 0} (key : R → ℕ) (id : ℕ) (f : R → R) → ((x : R) → key (f x) ≡ key x) → (x : R) → key (if key x == id then f x else x) ≡ key x
changed_id key id f keeps x = grind (arith, nat_tests, keeps x)

pub numbered-changed : {R : Type 0} (key : R → ℕ) (n : ℕ) (id : ℕ) (f : R → R) (xs : List R) → ((x : R) → key (f x) ≡ key x) → numbered key n xs ≡ true → numbered key n (changed key id f xs) ≡ true
numbered-changed key n id f xs keeps e = numbered-map key n (λ x. if key x == id then f x else x) xs (changed_id key id f keeps) e

rising-push : {R : Type 0} (key : R → ℕ) (x : R) (xs : List R) → rising key xs ≡ true → list_all (λ y. ltb (key y) (key x)) xs ≡ true → rising key (xs ++ x ∷ []) ≡ true
rising-push key x [] e f = refl
rising-push key x (y ∷ ys) e f = grind (arith, nat_tests, all_append (λ z. ltb (key y) (key z)) ys (x ∷ []), rising-push key x ys)

below_more : {R : Type 0} (key : R → ℕ) (n : ℕ) (xs : List R) → list_all (λ y. ltb (key y) n) xs ≡ true → list_all (λ y. ltb (key y) (n + 1)) xs ≡ true
below_more key n [] e = refl
below_more key n (x ∷ xs) e = grind (arith, nat_tests, below_more key n xs)

pub numbered-more : {R : Type 0} (key : R → ℕ) (n : ℕ) (xs : List R) → numbered key n xs ≡ true → numbered key (n + 1) xs ≡ true
numbered-more key n xs e = grind (arith, nat_tests, below_more key n xs)

pub numbered-push : {R : Type 0} (key : R → ℕ) (n : ℕ) (x : R) (xs : List R) → key x ≡ n → numbered key n xs ≡ true → numbered key (n + 1) (xs ++ x ∷ []) ≡ true
numbered-push key n x xs same e = grind (arith, nat_tests, rising-push key x xs, below_more key n xs, all_append (λ y. ltb (key y) (n + 1)) xs (x ∷ []))

-- From one fact of each row to another, where one row changes, leaves or isn't there.

pub all_filter_imp : {R : Type 0} (p p' q : R → Bool) → ((x : R) → q x ≡ true → p x ≡ true → p' x ≡ true) → (xs : List R) → list_all p xs ≡ true → list_all p' (filter q xs) ≡ true
all_filter_imp p p' q h [] e = refl
all_filter_imp p p' q h (x ∷ xs) e = grind (arith, nat_tests, h x, all_filter_imp p p' q h xs)

pub all_at : {R : Type 0} (p : R → Bool) (key : R → ℕ) (id : ℕ) (xs : List R) (r : R) → row_of key id xs ≡ Some r → list_all p xs ≡ true → p r ≡ true
all_at p key id [] r there e = cc
all_at p key id (x ∷ xs) r there e = grind (arith, nat_tests, all_at p key id xs r)

all_later : {R : Type 0} (p p' : R → Bool) (key : R → ℕ) (id : ℕ) (f : R → R) (xs : List R) → ((x : R) → key x ≢ id → p x ≡ true → p' x ≡ true) → list_all (λ y. ltb id (key y)) xs ≡ true → list_all p xs ≡ true → list_all p' (changed key id f xs) ≡ true
all_later p p' key id f [] h later e = refl
all_later p p' key id f (x ∷ xs) h later e = grind (arith, nat_tests, h x, all_later p p' key id f xs h)

pub all_changed_other : {R : Type 0} (p p' : R → Bool) (key : R → ℕ) (id : ℕ) (f : R → R) (xs : List R) (r : R) → rising key xs ≡ true → row_of key id xs ≡ Some r → p' (f r) ≡ true → ((x : R) → key x ≢ id → p x ≡ true → p' x ≡ true) → list_all p xs ≡ true → list_all p' (changed key id f xs) ≡ true
all_changed_other p p' key id f [] r up there new h e = refl
all_changed_other p p' key id f (x ∷ xs) r up there new h e = grind (arith, nat_tests, h x, all_later p p' key id f xs h, all_changed_other p p' key id f xs r)

pub all_without_row : {R : Type 0} (p p' : R → Bool) (key : R → ℕ) (id : ℕ) (xs : List R) → row_of key id xs ≡ None → ((x : R) → key x ≢ id → p x ≡ true → p' x ≡ true) → list_all p xs ≡ true → list_all p' xs ≡ true
all_without_row p p' key id [] there h e = refl
all_without_row p p' key id (x ∷ xs) there h e = grind (arith, nat_tests, h x, all_without_row p p' key id xs)
