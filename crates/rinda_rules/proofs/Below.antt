-- Rows of which those below an id have changed or left, and the next one's turn.
use Rattle.std.proofs.Common.{◌≡◌, ℕ, suc, ◌≤◌, Bool, true, false, not, ◌&&◌, List, [], ◌∷◌, ◌++◌, map, Some, None, refl, arith}
use Rattle.std.specs.Prelude.{filter, nat_lt, if◌then◌else◌}
use Rattle.std.specs.List.{list_all}
use Rattle.std.proofs.lemmas.Bool.Decides.{nat_tests}
use Rattle.rinda_rules.specs.Rows.{row_of, changed, without, rising}

-- the rows, with those below n changed
abbrev pub changed_below : {R : Type 0} → (R → ℕ) → ℕ → (R → R) → List R → List R
changed_below key n f xs = map (λ x. if nat_lt (key x) n then f x else x) xs

-- the rows without those below n of which p holds
abbrev pub kept_below : {R : Type 0} → (R → ℕ) → ℕ → (R → Bool) → List R → List R
kept_below key n p xs = filter (λ x. not (p x && nat_lt (key x) n)) xs

-- those that left
abbrev pub gone_below : {R : Type 0} → (R → ℕ) → ℕ → (R → Bool) → List R → List R
gone_below key n p xs = filter (λ x. p x && nat_lt (key x) n) xs

-- One row changes.

none_later : {R : Type 0} (key : R → ℕ) (id : ℕ) (f : R → R) (xs : List R) → list_all (λ y. nat_lt id (key y)) xs ≡ true → changed key id f xs ≡ xs
none_later key id f [] e = refl
none_later key id f (x ∷ xs) e = grind (arith, nat_tests, none_later key id f xs)

pub changed_as : {R : Type 0} (key : R → ℕ) (n : ℕ) (f g : R → R) (xs : List R) (r : R) → rising key xs ≡ true → row_of key n xs ≡ Some r → f r ≡ g r → changed key n f xs ≡ changed key n g xs
changed_as key n f g [] r up there e = refl
changed_as key n f g (x ∷ xs) r up there e = grind (arith, nat_tests, none_later key n f xs, none_later key n g xs, changed_as key n f g xs r)

pub changed_none : {R : Type 0} (key : R → ℕ) (n : ℕ) (f : R → R) (xs : List R) → row_of key n xs ≡ None → changed key n f xs ≡ xs
changed_none key n f [] there = refl
changed_none key n f (x ∷ xs) there = grind (arith, nat_tests, changed_none key n f xs)

pub changed_same : {R : Type 0} (key : R → ℕ) (n : ℕ) (f : R → R) (xs : List R) (r : R) → rising key xs ≡ true → row_of key n xs ≡ Some r → f r ≡ r → changed key n f xs ≡ xs
changed_same key n f [] r up there e = refl
changed_same key n f (x ∷ xs) r up there e = grind (arith, nat_tests, none_later key n f xs, changed_same key n f xs r)

-- Those below an id change.

pub below_next : {R : Type 0} (key : R → ℕ) (n : ℕ) (f : R → R) (xs : List R) → ((x : R) → key (f x) ≡ key x) → changed key n f (changed_below key n f xs) ≡ changed_below key (suc n) f xs
below_next key n f [] keeps = refl
below_next key n f (x ∷ xs) keeps = grind (arith, nat_tests, keeps x, below_next key n f xs keeps)

pub below_row : {R : Type 0} (key : R → ℕ) (n : ℕ) (f : R → R) (xs : List R) → ((x : R) → key (f x) ≡ key x) → row_of key n (changed_below key n f xs) ≡ row_of key n xs
below_row key n f [] keeps = refl
below_row key n f (x ∷ xs) keeps = grind (arith, nat_tests, keeps x, below_row key n f xs keeps)

pub below_none : {R : Type 0} (key : R → ℕ) (n : ℕ) (f : R → R) (xs : List R) → row_of key n xs ≡ None → changed_below key n f xs ≡ changed_below key (suc n) f xs
below_none key n f [] there = refl
below_none key n f (x ∷ xs) there = grind (arith, nat_tests, below_none key n f xs)

pub below_zero : {R : Type 0} (key : R → ℕ) (f : R → R) (xs : List R) → changed_below key 0 f xs ≡ xs
below_zero key f [] = refl
below_zero key f (x ∷ xs) = grind (arith, nat_tests, below_zero key f xs)

pub below_all : {R : Type 0} (key : R → ℕ) (n : ℕ) (f : R → R) (xs : List R) → list_all (λ x. nat_lt (key x) n) xs ≡ true → changed_below key n f xs ≡ map f xs
below_all key n f [] e = refl
below_all key n f (x ∷ xs) e = grind (arith, nat_tests, below_all key n f xs)

pub below_id : {R : Type 0} (key : R → ℕ) (n : ℕ) (f : R → R) → ((x : R) → key (f x) ≡ key x) → (x : R) → key (if nat_lt (key x) n then f x else x) ≡ key x
below_id key n f keeps x = grind (arith, nat_tests, keeps x)

-- Those below an id leave.

pub kept_none : {R : Type 0} (key : R → ℕ) (n : ℕ) (p : R → Bool) (xs : List R) → row_of key n xs ≡ None → kept_below key n p xs ≡ kept_below key (suc n) p xs
kept_none key n p [] there = refl
kept_none key n p (x ∷ xs) there = grind (arith, nat_tests, kept_none key n p xs)

kept_later : {R : Type 0} (key : R → ℕ) (n m : ℕ) (p : R → Bool) (xs : List R) → m ≤ suc n → list_all (λ y. nat_lt n (key y)) xs ≡ true → kept_below key m p xs ≡ xs
kept_later key n m p [] le e = refl
kept_later key n m p (x ∷ xs) le e = grind (arith, nat_tests, kept_later key n m p xs le)

without_later : {R : Type 0} (key : R → ℕ) (n : ℕ) (xs : List R) → list_all (λ y. nat_lt n (key y)) xs ≡ true → without key n xs ≡ xs
without_later key n [] e = refl
without_later key n (x ∷ xs) e = grind (arith, nat_tests, without_later key n xs)

pub kept_stays : {R : Type 0} (key : R → ℕ) (n : ℕ) (p : R → Bool) (xs : List R) (r : R) → rising key xs ≡ true → row_of key n xs ≡ Some r → p r ≡ false → kept_below key n p xs ≡ kept_below key (suc n) p xs
kept_stays key n p [] r up there e = refl
kept_stays key n p (x ∷ xs) r up there e = grind (arith, nat_tests, kept_later key n n p xs (omega arith), kept_later key n (suc n) p xs (omega arith), kept_stays key n p xs r)

pub kept_leaves : {R : Type 0} (key : R → ℕ) (n : ℕ) (p : R → Bool) (xs : List R) (r : R) → rising key xs ≡ true → row_of key n xs ≡ Some r → p r ≡ true → without key n (kept_below key n p xs) ≡ kept_below key (suc n) p xs
kept_leaves key n p [] r up there e = refl
kept_leaves key n p (x ∷ xs) r up there e = grind (arith, nat_tests, without_later key n xs, kept_later key n n p xs (omega arith), kept_later key n (suc n) p xs (omega arith), kept_leaves key n p xs r)

pub kept_row : {R : Type 0} (key : R → ℕ) (n : ℕ) (p : R → Bool) (xs : List R) → row_of key n (kept_below key n p xs) ≡ row_of key n xs
kept_row key n p [] = refl
kept_row key n p (x ∷ xs) = grind (arith, nat_tests, kept_row key n p xs)

pub kept_zero : {R : Type 0} (key : R → ℕ) (p : R → Bool) (xs : List R) → kept_below key 0 p xs ≡ xs
kept_zero key p [] = refl
kept_zero key p (x ∷ xs) = grind (arith, nat_tests, kept_zero key p xs)

pub kept_all : {R : Type 0} (key : R → ℕ) (n : ℕ) (p : R → Bool) (xs : List R) → list_all (λ x. nat_lt (key x) n) xs ≡ true → kept_below key n p xs ≡ filter (λ x. not (p x)) xs
kept_all key n p [] e = refl
kept_all key n p (x ∷ xs) e = grind (arith, nat_tests, kept_all key n p xs)

-- a change of those below, and the next one leaves
pub without_below : {R : Type 0} (key : R → ℕ) (n : ℕ) (f : R → R) (xs : List R) → ((x : R) → key (f x) ≡ key x) → without key n (changed_below key n f xs) ≡ changed_below key (suc n) f (without key n xs)
without_below key n f [] keeps = refl
without_below key n f (x ∷ xs) keeps = grind (arith, nat_tests, keeps x, without_below key n f xs keeps)

-- Those that left.

pub gone_none : {R : Type 0} (key : R → ℕ) (n : ℕ) (p : R → Bool) (xs : List R) → row_of key n xs ≡ None → gone_below key n p xs ≡ gone_below key (suc n) p xs
gone_none key n p [] there = refl
gone_none key n p (x ∷ xs) there = grind (arith, nat_tests, gone_none key n p xs)

gone_later : {R : Type 0} (key : R → ℕ) (n m : ℕ) (p : R → Bool) (xs : List R) → m ≤ suc n → list_all (λ y. nat_lt n (key y)) xs ≡ true → gone_below key m p xs ≡ []
gone_later key n m p [] le e = refl
gone_later key n m p (x ∷ xs) le e = grind (arith, nat_tests, gone_later key n m p xs le)

pub gone_stays : {R : Type 0} (key : R → ℕ) (n : ℕ) (p : R → Bool) (xs : List R) (r : R) → rising key xs ≡ true → row_of key n xs ≡ Some r → p r ≡ false → gone_below key n p xs ≡ gone_below key (suc n) p xs
gone_stays key n p [] r up there e = refl
gone_stays key n p (x ∷ xs) r up there e = grind (arith, nat_tests, gone_later key n n p xs (omega arith), gone_later key n (suc n) p xs (omega arith), gone_stays key n p xs r)

pub gone_leaves : {R : Type 0} (key : R → ℕ) (n : ℕ) (p : R → Bool) (xs : List R) (r : R) → rising key xs ≡ true → row_of key n xs ≡ Some r → p r ≡ true → gone_below key n p xs ++ r ∷ [] ≡ gone_below key (suc n) p xs
gone_leaves key n p [] r up there e = cc
gone_leaves key n p (x ∷ xs) r up there e = grind (arith, nat_tests, gone_later key n n p xs (omega arith), gone_later key n (suc n) p xs (omega arith), gone_leaves key n p xs r)

pub gone_zero : {R : Type 0} (key : R → ℕ) (p : R → Bool) (xs : List R) → gone_below key 0 p xs ≡ []
gone_zero key p [] = refl
gone_zero key p (x ∷ xs) = grind (arith, nat_tests, gone_zero key p xs)

pub gone_all : {R : Type 0} (key : R → ℕ) (n : ℕ) (p : R → Bool) (xs : List R) → list_all (λ x. nat_lt (key x) n) xs ≡ true → gone_below key n p xs ≡ filter p xs
gone_all key n p [] e = refl
gone_all key n p (x ∷ xs) e = grind (arith, nat_tests, gone_all key n p xs)
