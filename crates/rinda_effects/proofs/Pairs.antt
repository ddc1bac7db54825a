-- Pairs of a row of one list and a row of another.
use Rattle.std.proofs.Common.{◌≡◌, ◌≢◌, ℕ, Bool, true, ◌&&◌, ltb, List, [], ◌∷◌, ◌++◌, map, Some, refl, arith}
use Rattle.std.specs.Prelude.{filter}
use Rattle.std.specs.List.{list_all}
use Rattle.std.proofs.lemmas.Bool.Decides.{nat_tests}
use Rattle.rinda_rules.specs.Rows.{row_of, changed, rising}
use Rattle.rinda_rules.proofs.Lists.{all_imp, all_filter, all_append, all_true, all_at, all_changed_other}
use Rattle.rinda_effects.specs.Touches.{pairs}

-- one row beside the others

pub all_to_map : {R : Type 0} (p p' : R → Bool) (f : R → R) → ((x : R) → p x ≡ true → p' (f x) ≡ true) → (xs : List R) → list_all p xs ≡ true → list_all p' (map f xs) ≡ true
all_to_map p p' f h [] e = refl
all_to_map p p' f h (x ∷ xs) e = grind (arith, nat_tests, h x, all_to_map p p' f h xs)

later_others : {R : Type 0} (p p' : R → Bool) (key : R → ℕ) (id : ℕ) (xs : List R) → ((x : R) → key x ≢ id → p x ≡ true → p' x ≡ true) → list_all (λ y. ltb id (key y)) xs ≡ true → list_all p xs ≡ true → list_all p' xs ≡ true
later_others p p' key id [] h later e = refl
later_others p p' key id (x ∷ xs) h later e = grind (arith, nat_tests, h x, later_others p p' key id xs h)

-- from one fact of each row to another, where the row with an id, if it is there, has its own reason
pub all_others : {R : Type 0} (p p' : R → Bool) (key : R → ℕ) (id : ℕ) (xs : List R) → rising key xs ≡ true → ((r : R) → row_of key id xs ≡ Some r → p r ≡ true → p' r ≡ true) → ((x : R) → key x ≢ id → p x ≡ true → p' x ≡ true) → list_all p xs ≡ true → list_all p' xs ≡ true
all_others p p' key id [] up one h e = refl
all_others p p' key id (x ∷ xs) up one h e = grind (arith, nat_tests, one x, h x, later_others p p' key id xs h, all_others p p' key id xs)

-- pairs

one_more : (b : Bool) → b ≡ true → (b && true) ≡ true
one_more b e = grind arith

pub pairs_imp : {R T : Type 0} (p p' : R → T → Bool) → ((r : R) (t : T) → p r t ≡ true → p' r t ≡ true) → (rs : List R) (ts : List T) → pairs p rs ts ≡ true → pairs p' rs ts ≡ true
pairs_imp p p' h rs ts e = all_imp (λ r. list_all (p r) ts) (λ r. list_all (p' r) ts) (λ r. all_imp (p r) (p' r) (h r) ts) rs e

pub pairs_requests : {R T : Type 0} (p p' : R → T → Bool) (f : R → R) → ((r : R) (t : T) → p r t ≡ true → p' (f r) t ≡ true) → (rs : List R) (ts : List T) → pairs p rs ts ≡ true → pairs p' (map f rs) ts ≡ true
pairs_requests p p' f h rs ts e = all_to_map (λ r. list_all (p r) ts) (λ r. list_all (p' r) ts) f (λ r. all_imp (p r) (p' (f r)) (h r) ts) rs e

pub pairs_tuples : {R T : Type 0} (p p' : R → T → Bool) (g : T → T) → ((r : R) (t : T) → p r t ≡ true → p' r (g t) ≡ true) → (rs : List R) (ts : List T) → pairs p rs ts ≡ true → pairs p' rs (map g ts) ≡ true
pairs_tuples p p' g h rs ts e = all_imp (λ r. list_all (p r) ts) (λ r. list_all (p' r) (map g ts)) (λ r. all_to_map (p r) (p' r) g (h r) ts) rs e

pub pairs_fewer_requests : {R T : Type 0} (p : R → T → Bool) (q : R → Bool) (rs : List R) (ts : List T) → pairs p rs ts ≡ true → pairs p (filter q rs) ts ≡ true
pairs_fewer_requests p q rs ts e = all_filter (λ r. list_all (p r) ts) q rs e

pub pairs_fewer_tuples : {R T : Type 0} (p : R → T → Bool) (q : T → Bool) (rs : List R) (ts : List T) → pairs p rs ts ≡ true → pairs p rs (filter q ts) ≡ true
pairs_fewer_tuples p q rs ts e = all_imp (λ r. list_all (p r) ts) (λ r. list_all (p r) (filter q ts)) (λ r. all_filter (p r) q ts) rs e

pub pairs_more_requests : {R T : Type 0} (p : R → T → Bool) (r : R) → ((t : T) → p r t ≡ true) → (rs : List R) (ts : List T) → pairs p rs ts ≡ true → pairs p (rs ++ r ∷ []) ts ≡ true
pairs_more_requests p r h rs ts e = all_append (λ r. list_all (p r) ts) rs (r ∷ []) e (one_more (list_all (p r) ts) (all_true (p r) h ts))

pub pairs_more_tuples : {R T : Type 0} (p : R → T → Bool) (t : T) → ((r : R) → p r t ≡ true) → (rs : List R) (ts : List T) → pairs p rs ts ≡ true → pairs p rs (ts ++ t ∷ []) ≡ true
pairs_more_tuples p t h rs ts e = all_imp (λ r. list_all (p r) ts) (λ r. list_all (p r) (ts ++ t ∷ [])) (λ r e. all_append (p r) ts (t ∷ []) e (one_more (p r t) (h r))) rs e

-- where the request, or the tuple, with an id has its own reason

pub pairs_other_requests : {R T : Type 0} (p p' : R → T → Bool) (key : R → ℕ) (id : ℕ) (rs : List R) (ts : List T) → rising key rs ≡ true → ((r : R) (t : T) → row_of key id rs ≡ Some r → p r t ≡ true → p' r t ≡ true) → ((r : R) (t : T) → key r ≢ id → p r t ≡ true → p' r t ≡ true) → pairs p rs ts ≡ true → pairs p' rs ts ≡ true
pairs_other_requests p p' key id rs ts up one h e =
    all_others (λ r. list_all (p r) ts) (λ r. list_all (p' r) ts) key id rs up (λ r there. all_imp (p r) (p' r) (λ t. one r t there) ts) (λ r ne. all_imp (p r) (p' r) (λ t. h r t ne) ts) e

pub pairs_other_tuples : {R T : Type 0} (p p' : R → T → Bool) (key : T → ℕ) (id : ℕ) (rs : List R) (ts : List T) → rising key ts ≡ true → ((r : R) (t : T) → row_of key id ts ≡ Some t → p r t ≡ true → p' r t ≡ true) → ((r : R) (t : T) → key t ≢ id → p r t ≡ true → p' r t ≡ true) → pairs p rs ts ≡ true → pairs p' rs ts ≡ true
pairs_other_tuples p p' key id rs ts up one h e =
    all_imp (λ r. list_all (p r) ts) (λ r. list_all (p' r) ts) (λ r. all_others (p r) (p' r) key id ts up (λ t there. one r t there) (λ t ne. h r t ne)) rs e

-- where the tuple with an id is changed and has its own reason
pub pairs_changed_tuple : {R T : Type 0} (p p' : R → T → Bool) (key : T → ℕ) (id : ℕ) (g : T → T) (x : T) (rs : List R) (ts : List T) → rising key ts ≡ true → row_of key id ts ≡ Some x → ((r : R) → p r x ≡ true → p' r (g x) ≡ true) → ((r : R) (t : T) → key t ≢ id → p r t ≡ true → p' r t ≡ true) → pairs p rs ts ≡ true → pairs p' rs (changed key id g ts) ≡ true
pairs_changed_tuple p p' key id g x rs ts up there one h e =
    all_imp (λ r. list_all (p r) ts) (λ r. list_all (p' r) (changed key id g ts))
    (λ r e. all_changed_other (p r) (p' r) key id g ts x up there (one r (all_at (p r) key id ts x there e)) (λ t ne. h r t ne) e) rs e

pub pairs_changed_request : {R T : Type 0} (p p' : R → T → Bool) (key : R → ℕ) (id : ℕ) (f : R → R) (x : R) (rs : List R) (ts : List T) → rising key rs ≡ true → row_of key id rs ≡ Some x → (list_all (p' (f x)) ts ≡ true) → ((r : R) (t : T) → key r ≢ id → p r t ≡ true → p' r t ≡ true) → pairs p rs ts ≡ true → pairs p' (changed key id f rs) ts ≡ true
pairs_changed_request p p' key id f x rs ts up there one h e =
    all_changed_other (λ r. list_all (p r) ts) (λ r. list_all (p' r) ts) key id f rs x up there one (λ r ne. all_imp (p r) (p' r) (λ t. h r t ne) ts) e
