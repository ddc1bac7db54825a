-- Lists of rows of which some are gone.
use Rattle.std.proofs.Common.{◌≡◌, ◌∙◌, ℕ, Bool, true, false, List, [], ◌∷◌, ◌++◌, map, Option, Some, None, refl, sym, ap, arith}
use Rattle.std.specs.Prelude.{not, ◌||◌, ◌==◌, nat_lt, filter, find}
use Rattle.std.specs.List.{list_all, list_any}
use Rattle.std.proofs.lemmas.Bool.Decides.{nat_tests}
use Rattle.rinda_rules.specs.Rows.{row_of, changed, without, rising}
use Rattle.rinda_tables.specs.Undoing.{is_in, left, below}

-- no id is among none
pub left-none : {R : Type 0} (key : R → ℕ) (xs : List R) → left key [] xs ≡ xs
left-none key [] = refl
left-none {R = R} key (x ∷ xs) = ap (λ (ys : List R). x ∷ ys) (left-none key xs)

pub left-append : {R : Type 0} (key : R → ℕ) (gone : List ℕ) (xs ys : List R) → left key gone (xs ++ ys) ≡ left key gone xs ++ left key gone ys
left-append key gone [] ys = refl
left-append key gone (x ∷ xs) ys = grind (arith, left-append key gone xs ys)

-- a change that keeps the id changes what is left
pub left-changed : {R : Type 0} (key : R → ℕ) (gone : List ℕ) (id : ℕ) (f : R → R) (xs : List R) → ((x : R) → key (f x) ≡ key x) → left key gone (changed key id f xs) ≡ changed key id f (left key gone xs)
left-changed key gone id f [] keeps = refl
left-changed key gone id f (x ∷ xs) keeps = grind (arith, nat_tests, keeps x, left-changed key gone id f xs keeps)

pub in-last : (gone : List ℕ) (id q : ℕ) → is_in (gone ++ id ∷ []) q ≡ (is_in gone q || id == q)
in-last [] id q = grind (arith, nat_tests)
in-last (g ∷ gone) id q = grind (arith, nat_tests, in-last gone id q)

-- one more is gone, which changed before
pub left-more : {R : Type 0} (key : R → ℕ) (gone : List ℕ) (id : ℕ) (f : R → R) (xs : List R) → ((x : R) → key (f x) ≡ key x) → left key (gone ++ id ∷ []) (changed key id f xs) ≡ without key id (left key gone xs)
left-more key gone id f [] keeps = refl
left-more key gone id f (x ∷ xs) keeps = grind (arith, nat_tests, keeps x, in-last gone id (key x), left-more key gone id f xs keeps)

none-left : {R : Type 0} (key : R → ℕ) (gone : List ℕ) (id : ℕ) (xs : List R) → is_in gone id ≡ true → row_of key id (left key gone xs) ≡ None
none-left key gone id [] e = refl
none-left key gone id (x ∷ xs) e = grind (arith, nat_tests, none-left key gone id xs)

-- whoever is gone has no row
pub row-gone : {R : Type 0} (key : R → ℕ) (gone : List ℕ) (id : ℕ) (xs : List R) → is_in gone id ≡ true → None ≡ row_of key id (left key gone xs)
row-gone key gone id xs e = sym (none-left key gone id xs e)

pub row-left : {R : Type 0} (key : R → ℕ) (gone : List ℕ) (id : ℕ) (xs : List R) → is_in gone id ≡ false → row_of key id xs ≡ row_of key id (left key gone xs)
row-left key gone id [] e = refl
row-left key gone id (x ∷ xs) e = grind (arith, nat_tests, row-left key gone id xs)

-- nor has one that had none before
pub absent-left : {R : Type 0} (key : R → ℕ) (gone : List ℕ) (id : ℕ) (xs : List R) → row_of key id xs ≡ None → row_of key id (left key gone xs) ≡ None
absent-left key gone id [] e = refl
absent-left key gone id (x ∷ xs) e = grind (arith, nat_tests, absent-left key gone id xs)

-- a search that passes over whoever is gone finds the same
pub find-left : {R : Type 0} (key : R → ℕ) (gone : List ℕ) (p : R → Bool) (xs : List R) → list_all (λ x. not (is_in gone (key x)) || not (p x)) xs ≡ true → find p xs ≡ find p (left key gone xs)
find-left key gone p [] e = refl
find-left key gone p (x ∷ xs) e = grind (arith, find-left key gone p xs)

pub filter-left : {R : Type 0} (key : R → ℕ) (gone : List ℕ) (p : R → Bool) (xs : List R) → list_all (λ x. not (is_in gone (key x)) || not (p x)) xs ≡ true → filter p xs ≡ filter p (left key gone xs)
filter-left key gone p [] e = refl
filter-left key gone p (x ∷ xs) e = grind (arith, filter-left key gone p xs)

-- One after the other leaves.

pub left-last : {R : Type 0} (key : R → ℕ) (gone : List ℕ) (id : ℕ) (xs : List R) → left key (gone ++ id ∷ []) xs ≡ left key gone (without key id xs)
left-last key gone id [] = refl
left-last key gone id (x ∷ xs) = grind (arith, nat_tests, in-last gone id (key x), left-last key gone id xs)

pub without-absent : {R : Type 0} (key : R → ℕ) (id : ℕ) (xs : List R) → row_of key id xs ≡ None → without key id xs ≡ xs
without-absent key id [] e = refl
without-absent key id (x ∷ xs) e = grind (arith, nat_tests, without-absent key id xs)

-- New rows.

pub rising-last : {R : Type 0} (key : R → ℕ) (xs : List R) (x : R) → rising key xs ≡ true → below key (key x) xs ≡ true → rising key (xs ++ x ∷ []) ≡ true
rising-last key [] x up low = refl
rising-last {R = R} key (y ∷ xs) x up low = grind (arith, nat_tests, rising-last key xs x, above y xs x)
  where
    above : (y : R) (xs : List R) (x : R) → list_all (λ later. nat_lt (key y) (key later)) xs ≡ true → nat_lt (key y) (key x) ≡ true → list_all (λ later. nat_lt (key y) (key later)) (xs ++ x ∷ []) ≡ true
    above y [] x e f = grind (arith, nat_tests)
    above y (z ∷ xs) x e f = grind (arith, nat_tests, above y xs x)

pub without-last : {R : Type 0} (key : R → ℕ) (xs : List R) (x : R) → below key (key x) xs ≡ true → without key (key x) (xs ++ x ∷ []) ≡ xs
without-last key [] x low = grind (arith, nat_tests)
without-last key (y ∷ xs) x low = grind (arith, nat_tests, without-last key xs x)

pub below-changed : {R : Type 0} (key : R → ℕ) (n id : ℕ) (f : R → R) (xs : List R) → ((x : R) → key (f x) ≡ key x) → below key n (changed key id f xs) ≡ below key n xs
below-changed key n id f [] keeps = refl
below-changed key n id f (x ∷ xs) keeps = grind (arith, nat_tests, keeps x, below-changed key n id f xs keeps)

pub rising-changed : {R : Type 0} (key : R → ℕ) (id : ℕ) (f : R → R) (xs : List R) → ((x : R) → key (f x) ≡ key x) → rising key xs ≡ true → rising key (changed key id f xs) ≡ true
rising-changed key id f [] keeps up = refl
rising-changed {R = R} key id f (x ∷ xs) keeps up = grind (arith, nat_tests, keeps x, rising-changed key id f xs keeps, above x xs)
  where
    above : (y : R) (xs : List R) → list_all (λ later. nat_lt (key y) (key later)) (changed key id f xs) ≡ list_all (λ later. nat_lt (key y) (key later)) xs
    above y [] = refl
    above y (z ∷ xs) = grind (arith, nat_tests, keeps z, above y xs)

pub none-above : {R : Type 0} (key : R → ℕ) (id : ℕ) (g : R → R) (xs : List R) → list_all (λ later. nat_lt id (key later)) xs ≡ true → changed key id g xs ≡ xs
none-above key id g [] e = refl
none-above key id g (x ∷ xs) e = grind (arith, nat_tests, none-above key id g xs)

above-changed : {R : Type 0} (key : R → ℕ) (n id : ℕ) (f : R → R) (xs : List R) → ((x : R) → key (f x) ≡ key x) → list_all (λ later. nat_lt n (key later)) (changed key id f xs) ≡ list_all (λ later. nat_lt n (key later)) xs
above-changed key n id f [] keeps = refl
above-changed key n id f (x ∷ xs) keeps = grind (arith, nat_tests, keeps x, above-changed key n id f xs keeps)

-- what was done to the row with an id is taken back
pub changed-back : {R : Type 0} (key : R → ℕ) (id : ℕ) (f g : R → R) (xs : List R) (r : R) → ((x : R) → key (f x) ≡ key x) → rising key xs ≡ true → row_of key id xs ≡ Some r → g (f r) ≡ r → changed key id g (changed key id f xs) ≡ xs
changed-back key id f g [] r keeps up there back = refl
changed-back {R = R} key id f g (x ∷ xs) r keeps up there back = by_id (key x == id) refl (λ up there. changed-back key id f g xs r keeps up there back)
  where
    by_id : (b : Bool) → (key x == id) ≡ b → (rising key xs ≡ true → row_of key id xs ≡ Some r → changed key id g (changed key id f xs) ≡ xs) → changed key id g (changed key id f (x ∷ xs)) ≡ x ∷ xs
    by_id true e rest = grind (arith, nat_tests, keeps x, none-above key id f xs, none-above key id g xs, back)
    by_id false e rest = grind (arith, nat_tests, keeps x, rest)

pub changed-absent : {R : Type 0} (key : R → ℕ) (id : ℕ) (f : R → R) (xs : List R) → row_of key id xs ≡ None → changed key id f xs ≡ xs
changed-absent key id f [] e = refl
changed-absent key id f (x ∷ xs) e = grind (arith, nat_tests, changed-absent key id f xs)

pub any-changed : {R : Type 0} (key : R → ℕ) (q id : ℕ) (f : R → R) (xs : List R) → ((x : R) → key (f x) ≡ key x) → list_any (λ x. key x == q) (changed key id f xs) ≡ list_any (λ x. key x == q) xs
any-changed key q id f [] keeps = refl
any-changed key q id f (x ∷ xs) keeps = grind (arith, nat_tests, keeps x, any-changed key q id f xs keeps)

-- a change is taken back by one that takes it back for the row that was there, if there was one
pub changed-undone : {R : Type 0} (key : R → ℕ) (id : ℕ) (f g : R → R) (xs : List R) → ((x : R) → key (f x) ≡ key x) → rising key xs ≡ true → ((r : R) → row_of key id xs ≡ Some r → g (f r) ≡ r) → changed key id g (changed key id f xs) ≡ xs
changed-undone {R = R} key id f g xs keeps up back = by_row (row_of key id xs) refl
  where
    by_row : (o : Option R) → row_of key id xs ≡ o → changed key id g (changed key id f xs) ≡ xs
    by_row None e = ap (changed key id g) (changed-absent key id f xs e) ∙ changed-absent key id g xs e
    by_row (Some r) e = changed-back key id f g xs r keeps up e (back r e)

-- a change of whoever is gone changes nothing that is left
pub changed-gone : {R : Type 0} (key : R → ℕ) (gone : List ℕ) (id : ℕ) (f : R → R) (xs : List R) → is_in gone id ≡ true → changed key id f (left key gone xs) ≡ left key gone xs
changed-gone key gone id f xs e = changed-absent key id f (left key gone xs) (none-left key gone id xs e)

-- two changes that do the same to the row that is there
pub changed-alike : {R : Type 0} (key : R → ℕ) (id : ℕ) (f g : R → R) (xs : List R) → rising key xs ≡ true → ((r : R) → row_of key id xs ≡ Some r → f r ≡ g r) → changed key id f xs ≡ changed key id g xs
changed-alike key id f g [] up same = refl
changed-alike {R = R} key id f g (x ∷ xs) up same = by_id (key x == id) refl (λ up same. changed-alike key id f g xs up same)
  where
    by_id : (b : Bool) → (key x == id) ≡ b → (rising key xs ≡ true → ((r : R) → row_of key id xs ≡ Some r → f r ≡ g r) → changed key id f xs ≡ changed key id g xs) → changed key id f (x ∷ xs) ≡ changed key id g (x ∷ xs)
    by_id true e rest = grind (arith, nat_tests, none-above key id f xs, none-above key id g xs, same x (grind (arith, e)))
    by_id false e rest = grind (arith, nat_tests, rest (grind arith) (λ r there. same r (grind (arith, e, there))))

-- a change of all rows that keeps the ids changes what is left
pub left-map : {R : Type 0} (key : R → ℕ) (gone : List ℕ) (f : R → R) (xs : List R) → ((x : R) → key (f x) ≡ key x) → left key gone (map f xs) ≡ map f (left key gone xs)
left-map key gone f [] keeps = refl
left-map key gone f (x ∷ xs) keeps = grind (arith, nat_tests, keeps x, left-map key gone f xs keeps)
