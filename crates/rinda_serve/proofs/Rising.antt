-- Rows in rising id, of which some pass a test.
use Rattle.std.proofs.Common.{◌≡◌, ℕ, Bool, true, false, cond, not, ◌&&◌, ltb, List, [], ◌∷◌, map, Option, Some, None, refl, sym, ◌∙◌, ap, arith}
use Rattle.std.specs.Prelude.{filter, find, ◌==◌, is_some}
use Rattle.std.specs.List.{list_all, list_any}
use Rattle.std.specs.Option.{option_map}
use Rattle.std.proofs.lemmas.Bool.Decides.{nat_tests}
use Rattle.rinda_rules.specs.Rows.{row_of, changed, rising}

-- the ids of those that pass
abbrev pub ids_of : {R : Type 0} → (R → ℕ) → (R → Bool) → List R → List ℕ
ids_of key p rows = map key (filter p rows)

front : (a b : Bool) → (a && b) ≡ true → a ≡ true
front a b e = grind arith

back : (a b : Bool) → (a && b) ≡ true → b ≡ true
back a b e = grind arith

none-later : {R : Type 0} (key : R → ℕ) (id : ℕ) (f : R → R) (xs : List R) → list_all (λ y. ltb id (key y)) xs ≡ true → changed key id f xs ≡ xs
none-later key id f [] e = refl
none-later key id f (x ∷ xs) e = grind (arith, nat_tests, none-later key id f xs)

-- the first of them is above what all are above
first-above : {R : Type 0} (key : R → ℕ) (p : R → Bool) (n id : ℕ) (ids : List ℕ) (xs : List R) → list_all (λ y. ltb n (key y)) xs ≡ true → id ∷ ids ≡ ids_of key p xs → ltb n id ≡ true
first-above key p n id ids [] e is = cc
first-above {R = R} key p n id ids (x ∷ xs) e is = by_test (p x) (λ less. first-above key p n id ids xs (back _ _ e) less) is
  where
    own : id ≡ key x → ltb n id ≡ true
    own same = grind (arith, nat_tests)

    by_test : (b : Bool) → (id ∷ ids ≡ ids_of key p xs → ltb n id ≡ true) → id ∷ ids ≡ map key (cond {A = List R} b (x ∷ filter p xs) (filter p xs)) → ltb n id ≡ true
    by_test true again is = own cc
    by_test false again is = again is

-- it is there
pub some-there : {R : Type 0} (key : R → ℕ) (p : R → Bool) (id : ℕ) (ids : List ℕ) (xs : List R) → id ∷ ids ≡ ids_of key p xs → is_some (row_of key id xs) ≡ true
some-there key p id ids [] is = cc
some-there {R = R} key p id ids (x ∷ xs) is = by_test (p x) (λ less. some-there key p id ids xs less) is
  where
    own : id ≡ key x → is_some (row_of key id (x ∷ xs)) ≡ true
    own e = grind (arith, nat_tests)

    more : is_some (row_of key id xs) ≡ true → is_some (row_of key id (x ∷ xs)) ≡ true
    more e = grind (arith, nat_tests)

    by_test : (b : Bool) → (id ∷ ids ≡ ids_of key p xs → is_some (row_of key id xs) ≡ true) → id ∷ ids ≡ map key (cond {A = List R} b (x ∷ filter p xs) (filter p xs)) → is_some (row_of key id (x ∷ xs)) ≡ true
    by_test true again is = own cc
    by_test false again is = more (again is)

some-row : {R : Type 0} (o : Option R) → is_some o ≡ true → (r : R) × (o ≡ Some r)
some-row None e = cc
some-row (Some r) e = (r, refl)

pub first-there : {R : Type 0} (key : R → ℕ) (p : R → Bool) (id : ℕ) (ids : List ℕ) (xs : List R) → id ∷ ids ≡ ids_of key p xs → (r : R) × (row_of key id xs ≡ Some r)
first-there key p id ids xs is = some-row (row_of key id xs) (some-there key p id ids xs is)

not-here : (n id : ℕ) → ltb n id ≡ true → (n == id) ≡ false
not-here n id e = grind (arith, nat_tests)

same-here : (n id : ℕ) → id ≡ n → (n == id) ≡ true
same-here n id e = grind (arith, nat_tests)

-- where it passes no more, the others are left
pub rest-left : {R : Type 0} (key : R → ℕ) (p : R → Bool) (f : R → R) (id : ℕ) (ids : List ℕ) (xs : List R) → rising key xs ≡ true → ((x : R) → p (f x) ≡ false) → id ∷ ids ≡ ids_of key p xs → ids ≡ ids_of key p (changed key id f xs)
rest-left key p f id ids [] up fails is = cc
rest-left {R = R} key p f id ids (x ∷ xs) up fails is = by_test (p x) refl (λ less. rest-left key p f id ids xs (back _ _ up) fails less) is
  where
    own : id ≡ key x → ids ≡ ids_of key p xs → ids ≡ ids_of key p (changed key id f (x ∷ xs))
    own e is =
        let later : changed key id f xs ≡ xs = rw e (none-later key (key x) f xs (front _ _ up)) in
        is ∙ sym (rw (same-here (key x) id e, later, fails x) refl)

    by_test : (b : Bool) → p x ≡ b → (id ∷ ids ≡ ids_of key p xs → ids ≡ ids_of key p (changed key id f xs)) → id ∷ ids ≡ map key (cond {A = List R} b (x ∷ filter p xs) (filter p xs)) → ids ≡ ids_of key p (changed key id f (x ∷ xs))
    by_test true t again is = own (cc) (cc)
    by_test false t again is =
        let above : (key x == id) ≡ false = not-here (key x) id (first-above key p (key x) id ids xs (front _ _ up) is) in
        again is ∙ sym (rw (above, t) refl)

-- and all that follows from it, and from the others, is as before
pub rest-same : {R : Type 0} (key : R → ℕ) (p : R → Bool) (f g : R → R) (id : ℕ) (ids : List ℕ) (xs : List R) → rising key xs ≡ true → ((x : R) → p x ≡ true → g (f x) ≡ g x) → id ∷ ids ≡ ids_of key p xs → map g (changed key id f xs) ≡ map g xs
rest-same key p f g id ids [] up same is = cc
rest-same {R = R} key p f g id ids (x ∷ xs) up same is = by_test (p x) refl (λ less. rest-same key p f g id ids xs (back _ _ up) same less) is
  where
    own : id ≡ key x → p x ≡ true → map g (changed key id f (x ∷ xs)) ≡ map g (x ∷ xs)
    own e t =
        let later : changed key id f xs ≡ xs = rw e (none-later key (key x) f xs (front _ _ up)) in
        rw (same-here (key x) id e, later, same x t) refl

    by_test : (b : Bool) → p x ≡ b → (id ∷ ids ≡ ids_of key p xs → map g (changed key id f xs) ≡ map g xs) → id ∷ ids ≡ map key (cond {A = List R} b (x ∷ filter p xs) (filter p xs)) → map g (changed key id f (x ∷ xs)) ≡ map g (x ∷ xs)
    by_test true t again is = own (cc) t
    by_test false t again is =
        let above : (key x == id) ≡ false = not-here (key x) id (first-above key p (key x) id ids xs (front _ _ up) is) in
        rw above (ap (λ (ys : List R). g x ∷ ys) (again is))

-- where none passes, nothing follows
pub none-same : {R : Type 0} (key : R → ℕ) (p : R → Bool) (g : R → R) (xs : List R) → ((x : R) → p x ≡ false → g x ≡ x) → [] ≡ ids_of key p xs → map g xs ≡ xs
none-same key p g [] same is = refl
none-same {R = R} key p g (x ∷ xs) same is = by_test (p x) refl (λ less. none-same key p g xs same less) is
  where
    by_test : (b : Bool) → p x ≡ b → ([] ≡ ids_of key p xs → map g xs ≡ xs) → [] ≡ map key (cond {A = List R} b (x ∷ filter p xs) (filter p xs)) → map g (x ∷ xs) ≡ x ∷ xs
    by_test true t again is = cc
    by_test false t again is = rw (same x t) (ap (λ (ys : List R). x ∷ ys) (again is))

-- Tests that are the same.

pub filter-same : {R : Type 0} (p q : R → Bool) (xs : List R) → ((x : R) → p x ≡ q x) → filter p xs ≡ filter q xs
filter-same p q [] h = refl
filter-same p q (x ∷ xs) h = grind (arith, h x, filter-same p q xs h)

pub find-same : {R : Type 0} (p q : R → Bool) (xs : List R) → ((x : R) → p x ≡ q x) → find p xs ≡ find q xs
find-same p q [] h = refl
find-same p q (x ∷ xs) h = grind (arith, h x, find-same p q xs h)

pub map-same : {R S : Type 0} (f g : R → S) (xs : List R) → ((x : R) → f x ≡ g x) → map f xs ≡ map g xs
map-same f g [] h = refl
map-same f g (x ∷ xs) h = grind (arith, h x, map-same f g xs h)

pub find-none : {R : Type 0} (p : R → Bool) (xs : List R) → ((x : R) → p x ≡ false) → find p xs ≡ None
find-none p [] h = refl
find-none p (x ∷ xs) h = grind (arith, h x, find-none p xs h)

-- The first that passes.

pub record FoundRow {R : Type 0} (key : R → ℕ) (p : R → Bool) (id : ℕ) (xs : List R) : Type 0 where
  pub row : R
  pub is : key row ≡ id
  pub there : row_of key id xs ≡ Some row
  pub passes : p row ≡ true

row-above : {R : Type 0} (key : R → ℕ) (n id : ℕ) (xs : List R) (r : R) → list_all (λ y. ltb n (key y)) xs ≡ true → row_of key id xs ≡ Some r → ltb n id ≡ true
row-above key n id [] r e there = cc
row-above key n id (x ∷ xs) r e there = grind (arith, nat_tests, row-above key n id xs r)

pub found-row : {R : Type 0} (key : R → ℕ) (p : R → Bool) (id : ℕ) (xs : List R) → rising key xs ≡ true → option_map key (find p xs) ≡ Some id → FoundRow key p id xs
found-row key p id [] up e = cc
found-row {R = R} key p id (x ∷ xs) up e = by_test (p x) refl (λ less. found-row key p id xs (back _ _ up) less) e
  where
    later : ltb (key x) id ≡ true → FoundRow key p id xs → FoundRow key p id (x ∷ xs)
    later above f = record { row = f.row; is = f.is; there = rw (not-here (key x) id above) f.there; passes = f.passes }

    by_test : (b : Bool) → p x ≡ b → (option_map key (find p xs) ≡ Some id → FoundRow key p id xs) → option_map key (cond {A = Option R} b (Some x) (find p xs)) ≡ Some id → FoundRow key p id (x ∷ xs)
    by_test true t again e =
        let is : id ≡ key x = cc in
        record { row = x; is = sym is; there = rw (same-here (key x) id is) refl; passes = t }
    by_test false t again e = let f = again e in later (row-above key (key x) id xs f.row (front _ _ up) f.there) f

pub none-found : {R : Type 0} (key : R → ℕ) (p : R → Bool) (xs : List R) → option_map key (find p xs) ≡ None → list_all (λ x. not (p x)) xs ≡ true
none-found key p [] e = refl
none-found {R = R} key p (x ∷ xs) e = by_test (p x) refl (λ less. none-found key p xs less) e
  where
    by_test : (b : Bool) → p x ≡ b → (option_map key (find p xs) ≡ None → list_all (λ x. not (p x)) xs ≡ true) → option_map key (cond {A = Option R} b (Some x) (find p xs)) ≡ None → list_all (λ x. not (p x)) (x ∷ xs) ≡ true
    by_test true t again e = cc
    by_test false t again e = rw t (again e)

pub none-any : {R : Type 0} (p : R → Bool) (xs : List R) → list_all (λ x. not (p x)) xs ≡ true → list_any p xs ≡ false
none-any p [] e = refl
none-any p (x ∷ xs) e = grind (arith, none-any p xs)
