-- The table of symbols, as the list of their bytes.
use Rattle.std.proofs.Common.{◌≡◌, ℕ, suc, ◌+◌, Bool, true, false, not, cond, ◌||◌, List, [], ◌∷◌, ◌++◌, map, length, None, Some, position, nat_eq, nat_lt, bytes_eq, refl, sym, ap, ◌∙◌, arith}
use Rattle.std.specs.List.{position_or_len, list_any}
use Rattle.std.proofs.lemmas.Bool.Decides.{nat_tests}
use lib.Pointwise.{pointwise}

same_number : (x y : ℕ) → nat_eq x y ≡ nat_eq y x
same_number x y = grind (arith, nat_tests)

pub same_bytes : (s t : List ℕ) → pointwise nat_eq s t ≡ bytes_eq t s
same_bytes [] [] = refl
same_bytes [] (y ∷ ys) = refl
same_bytes (x ∷ xs) [] = refl
same_bytes (x ∷ xs) (y ∷ ys) = rw (same_number x y, same_bytes xs ys) refl

pub length-map-to : {X Y : Type 0} (f : X → Y) (xs : List X) → length (map f xs) ≡ length xs
length-map-to f [] = refl
length-map-to f (x ∷ xs) = ap (λ n. suc n) (length-map-to f xs)

pub position_or_len-map : {X Y : Type 0} (f : X → Y) (p : X → Bool) (q : Y → Bool) (xs : List X) → ((x : X) → p x ≡ q (f x)) → position_or_len p xs ≡ position_or_len q (map f xs)
position_or_len-map f p q [] h = refl
position_or_len-map f p q (x ∷ xs) h = rw (h x, position_or_len-map f p q xs h) refl

pub position-map : {X Y : Type 0} (f : X → Y) (p : X → Bool) (q : Y → Bool) (xs : List X) → ((x : X) → p x ≡ q (f x)) → position p xs ≡ position q (map f xs)
position-map f p q xs h = rw (position_or_len-map f p q xs h, length-map-to f xs) refl

pub map_push : {X Y : Type 0} (f : X → Y) (xs : List X) (x : X) → map f (xs ++ x ∷ []) ≡ map f xs ++ f x ∷ []
map_push f [] x = refl
map_push f (y ∷ ys) x = ap (λ zs. f y ∷ zs) (map_push f ys x)

pub list_any-map : {X Y : Type 0} (f : X → Y) (p : X → Bool) (q : Y → Bool) (xs : List X) → ((x : X) → p x ≡ q (f x)) → list_any p xs ≡ list_any q (map f xs)
list_any-map f p q [] h = refl
list_any-map f p q (x ∷ xs) h = rw (h x, list_any-map f p q xs h) refl

less_suc : (k n : ℕ) → nat_lt (1 + k) (suc n) ≡ nat_lt k n
less_suc k n = grind (arith, nat_tests)

none_less : (n : ℕ) → nat_lt 0 (suc n) ≡ true
none_less n = grind (arith, nat_tests)

any_at : {X : Type 0} (p : X → Bool) (xs : List X) → nat_lt (position_or_len p xs) (length xs) ≡ list_any p xs
any_at p [] = refl
any_at p (x ∷ xs) =
    elim (p x) as (λ b. nat_lt (cond (not b) (1 + position_or_len p xs) 0) (suc (length xs)) ≡ (b || list_any p xs)) [
      | true ↦ none_less (length xs)
      | false ↦ less_suc (position_or_len p xs) (length xs) ∙ any_at p xs
    ]

cond_none : (b : Bool) (n : ℕ) → cond b (Some n) None ≡ None → b ≡ false
cond_none true n h = absurd (cc)
cond_none false n h = refl

-- what has no position is not there
pub position-none : {X : Type 0} (p : X → Bool) (xs : List X) → position p xs ≡ None → list_any p xs ≡ false
position-none p xs h = sym (any_at p xs) ∙ cond_none _ (position_or_len p xs) h
