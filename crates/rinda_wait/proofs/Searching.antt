-- What is found through an index is what is found among all requests.
use Rattle.std.proofs.Common.{◌≡◌, ℕ, ◌%◌, ◌<◌, Bool, true, false, cond, ◌&&◌, ◌||◌, ltb, List, [], ◌∷◌, map, Option, Some, None, refl, sym, ◌∙◌, ap, arith}
use Rattle.std.specs.Prelude.{filter, find}
use Rattle.std.specs.List.{list_all}
use Rattle.std.specs.Option.{option_map}
use Rattle.std.specs.BTreeSet.{insert_key}
use Rattle.std.specs.Ordering.{nat_cmp}
use Rattle.std.proofs.lemmas.Bool.Decides.{nat_tests}
use Rattle.std.proofs.lemmas.Nat.{mod-mul-add}
use Rattle.rinda_rules.specs.declared.plain.Request.{Request}
use Rattle.rinda_rules.specs.Rows.{row_of, rising}
use Rattle.rinda_rules.proofs.Lists.{all_filter}
use Rattle.rinda_wait.specs.Places.{key_of, id_of, lies_at, IsIndexed, leads, suits_row, first_led, with_led, keys_at, lesser}

key_id : (m id : ℕ) → id < 18446744073709551616 → key_of m id % 18446744073709551616 ≡ id
key_id m id small = mod-mul-add m 18446744073709551616 id small

-- each of these requests is found among all by its id
abbrev pub Found : List Request → List Request → Type 0
Found all [] = Unit {0}
Found all (t ∷ ts) = (row_of (λ t. t.id) t.id all ≡ Some t) × Found all ts

found-more : (x : Request) (all ts : List Request) → list_all (λ t. ltb x.id t.id) ts ≡ true → Found all ts → Found (x ∷ all) ts
found-more x all [] later f = tt
found-more x all (t ∷ ts) later f = (grind (arith, nat_tests, f.0), found-more x all ts (grind (arith, nat_tests)) f.1)

itself : (x : Request) (xs : List Request) → row_of (λ t. t.id) x.id (x ∷ xs) ≡ Some x
itself x xs = grind (arith, nat_tests)

found-all : (ts : List Request) → rising (λ t. t.id) ts ≡ true → Found ts ts
found-all [] up = tt
found-all (t ∷ ts) up = (itself t ts, found-more t ts ts (grind (arith, nat_tests)) (found-all ts (grind (arith, nat_tests))))

found-filter : (all : List Request) (q : Request → Bool) (ts : List Request) → Found all ts → Found all (filter q ts)
found-filter all q [] f = tt
found-filter all q (t ∷ ts) f = by_test (q t) (found-filter all q ts f.1)
  where
    by_test : (b : Bool) → Found all (filter q ts) → Found all (cond {A = List Request} b (t ∷ filter q ts) (filter q ts))
    by_test true rest = (f.0, rest)
    by_test false rest = rest

front-small : (i : ℕ) (b : Bool) → (ltb i 18446744073709551616 && b) ≡ true → i < 18446744073709551616
front-small i b e = grind (arith, nat_tests)

rest-true : (a b : Bool) → (a && b) ≡ true → b ≡ true
rest-true a b e = grind arith

-- a request's key leads to it
leads-there : (q : Request → Bool) (m : ℕ) (all : List Request) (t : Request) → t.id < 18446744073709551616 → row_of (λ t. t.id) t.id all ≡ Some t → leads q all (key_of m t.id) ≡ q t
leads-there q m all t small there = ap (λ (id : ℕ). suits_row q (row_of (λ t. t.id) id all)) (key_id m t.id small) ∙ ap (suits_row q) there

-- The first one.

first-keys : (q : Request → Bool) (m : ℕ) (all ts : List Request) → list_all (λ t. ltb t.id 18446744073709551616) ts ≡ true → Found all ts → first_led q all (map (λ t. key_of m t.id) ts) ≡ option_map (λ t. t.id) (find q ts)
first-keys q m all [] small f = refl
first-keys q m all (t ∷ ts) small f =
    step (leads q all (key_of m t.id)) (q t) (id_of (key_of m t.id)) (leads-there q m all t (front-small t.id _ small) f.0) (key_id m t.id (front-small t.id _ small)) (first-keys q m all ts (rest-true _ _ small) f.1)
  where
    step : (a b : Bool) (id : ℕ) → a ≡ b → id ≡ t.id → first_led q all (map (λ t. key_of m t.id) ts) ≡ option_map (λ t. t.id) (find q ts) → cond {A = Option ℕ} a (Some id) (first_led q all (map (λ t. key_of m t.id) ts)) ≡ option_map (λ t. t.id) (cond {A = Option Request} b (Some t) (find q ts))
    step a true id e i more = rw (e, i) refl
    step a false id e i more = rw e more

find-filter : (q has : Request → Bool) (ts : List Request) → find q (filter has ts) ≡ find (λ t. has t && q t) ts
find-filter q has [] = refl
find-filter q has (t ∷ ts) = grind (arith, find-filter q has ts)

-- it lies at the place, if there is one
abbrev pub lies_there : (Request → ℕ) → Option ℕ → Request → Bool
lies_there p None t = false
lies_there p (Some m) t = lies_at p m t

-- the ids of the first that suits, and of all that do
abbrev pub first_of : (Request → Bool) → List Request → Option ℕ
first_of q ts = option_map (λ t. t.id) (find q ts)

abbrev pub ids_of : (Request → Bool) → List Request → List ℕ
ids_of q ts = map (λ t. t.id) (filter q ts)

find-none : (q : Request → Bool) (ts : List Request) → find (λ t. false && q t) ts ≡ None
find-none q [] = refl
find-none q (t ∷ ts) = find-none q ts

-- the first that suits and lies at a place
pub first-at : (q : Request → Bool) (p : Request → ℕ) (place : Option ℕ) (ts : List Request) (ks : List ℕ) → IsIndexed p ts ks → first_led q ts (keys_at place ks) ≡ first_of (λ t. lies_there p place t && q t) ts
first-at q p None ts ks h = ap (option_map (λ (t : Request). t.id)) (sym (find-none q ts))
first-at q p (Some m) ts ks h =
    ap (first_led q ts) (h.at m)
    ∙ first-keys q m ts (filter (lies_at p m) ts) (all_filter (λ t. ltb t.id 18446744073709551616) (lies_at p m) ts h.small) (found-filter ts (lies_at p m) ts (found-all ts h.requests_rise))
    ∙ ap (option_map (λ (t : Request). t.id)) (find-filter q (lies_at p m) ts)

lesser-first : (x : ℕ) (q : Request → Bool) (ts : List Request) → list_all (λ t. ltb x t.id) ts ≡ true → lesser (Some x) (first_of q ts) ≡ Some x
lesser-first x q [] later = refl
lesser-first x q (t ∷ ts) later = grind (arith, nat_tests, lesser-first x q ts)

first-lesser : (x : ℕ) (q : Request → Bool) (ts : List Request) → list_all (λ t. ltb x t.id) ts ≡ true → lesser (first_of q ts) (Some x) ≡ Some x
first-lesser x q [] later = refl
first-lesser x q (t ∷ ts) later = grind (arith, nat_tests, first-lesser x q ts)

lesser-same : (x : ℕ) → lesser (Some x) (Some x) ≡ Some x
lesser-same x = grind (arith, nat_tests)

-- the lesser of two firsts is the first of either
pub first-either : (a b : Request → Bool) (ts : List Request) → rising (λ t. t.id) ts ≡ true → lesser (first_of a ts) (first_of b ts) ≡ first_of (λ t. a t || b t) ts
first-either a b [] up = refl
first-either a b (t ∷ ts) up = step (a t) (b t) (lesser-first t.id b ts (front _ _ up)) (first-lesser t.id a ts (front _ _ up)) (first-either a b ts (rest-true _ _ up))
  where
    front : (x y : Bool) → (x && y) ≡ true → x ≡ true
    front x y e = grind arith

    step : (x y : Bool) → lesser (Some t.id) (first_of b ts) ≡ Some t.id → lesser (first_of a ts) (Some t.id) ≡ Some t.id → lesser (first_of a ts) (first_of b ts) ≡ first_of (λ t. a t || b t) ts → lesser (option_map (λ t. t.id) (cond {A = Option Request} x (Some t) (find a ts))) (option_map (λ t. t.id) (cond {A = Option Request} y (Some t) (find b ts))) ≡ option_map (λ t. t.id) (cond {A = Option Request} (x || y) (Some t) (find (λ t. a t || b t) ts))
    step true true e f more = lesser-same t.id
    step true false e f more = e
    step false true e f more = f
    step false false e f more = more

-- All of them.

-- a set of ids, with these
abbrev pub with_ids : List ℕ → List ℕ → List ℕ
with_ids [] ids = ids
with_ids (i ∷ is) ids = with_ids is (insert_key nat_cmp ids i)

led-keys : (q : Request → Bool) (m : ℕ) (all ts : List Request) (ids : List ℕ) → list_all (λ t. ltb t.id 18446744073709551616) ts ≡ true → Found all ts → with_led q all (map (λ t. key_of m t.id) ts) ids ≡ with_ids (ids_of q ts) ids
led-keys q m all [] ids small f = refl
led-keys q m all (t ∷ ts) ids small f =
    step (leads q all (key_of m t.id)) (q t) (id_of (key_of m t.id)) (leads-there q m all t (front-small t.id _ small) f.0) (key_id m t.id (front-small t.id _ small)) (λ ids. led-keys q m all ts ids (rest-true _ _ small) f.1)
  where
    step : (a b : Bool) (id : ℕ) → a ≡ b → id ≡ t.id → ((ids : List ℕ) → with_led q all (map (λ t. key_of m t.id) ts) ids ≡ with_ids (ids_of q ts) ids) → with_led q all (map (λ t. key_of m t.id) ts) (cond {A = List ℕ} a (insert_key nat_cmp ids id) ids) ≡ with_ids (map (λ t. t.id) (cond {A = List Request} b (t ∷ filter q ts) (filter q ts))) ids
    step a true id e i more = rw (e, i) (more (insert_key nat_cmp ids t.id))
    step a false id e i more = rw e (more ids)

filter-both : (q has : Request → Bool) (ts : List Request) → filter q (filter has ts) ≡ filter (λ t. has t && q t) ts
filter-both q has [] = refl
filter-both q has (t ∷ ts) = grind (arith, filter-both q has ts)

filter-none : (q : Request → Bool) (ts : List Request) → filter (λ t. false && q t) ts ≡ []
filter-none q [] = refl
filter-none q (t ∷ ts) = filter-none q ts

-- all that suit and lie at a place
pub led-at : (q : Request → Bool) (p : Request → ℕ) (place : Option ℕ) (ts : List Request) (ks ids : List ℕ) → IsIndexed p ts ks → with_led q ts (keys_at place ks) ids ≡ with_ids (ids_of (λ t. lies_there p place t && q t) ts) ids
led-at q p None ts ks ids h = ap (λ (xs : List Request). with_ids (map (λ t. t.id) xs) ids) (sym (filter-none q ts))
led-at q p (Some m) ts ks ids h =
    ap (λ (ks : List ℕ). with_led q ts ks ids) (h.at m)
    ∙ led-keys q m ts (filter (lies_at p m) ts) ids (all_filter (λ t. ltb t.id 18446744073709551616) (lies_at p m) ts h.small) (found-filter ts (lies_at p m) ts (found-all ts h.requests_rise))
    ∙ ap (λ (xs : List Request). with_ids (map (λ t. t.id) xs) ids) (filter-both q (lies_at p m) ts)

insert-below : (x : ℕ) (q : Request → Bool) (ts : List Request) → list_all (λ t. ltb x t.id) ts ≡ true → insert_key nat_cmp (ids_of q ts) x ≡ x ∷ ids_of q ts
insert-below x q [] later = refl
insert-below x q (t ∷ ts) later = grind (arith, nat_tests, insert-below x q ts)

insert-again : (x : ℕ) (xs : List ℕ) → insert_key nat_cmp (x ∷ xs) x ≡ x ∷ xs
insert-again x xs = grind (arith, nat_tests)

-- greater ids stay behind
with-above : (x : ℕ) (q : Request → Bool) (ts : List Request) (ids : List ℕ) → list_all (λ t. ltb x t.id) ts ≡ true → with_ids (ids_of q ts) (x ∷ ids) ≡ x ∷ with_ids (ids_of q ts) ids
with-above x q [] ids later = refl
with-above x q (t ∷ ts) ids later = step (q t) (behind x t.id ids (front _ _ later)) (λ ids. with-above x q ts ids (rest-true _ _ later))
  where
    front : (a b : Bool) → (a && b) ≡ true → a ≡ true
    front a b e = grind arith

    behind : (x y : ℕ) (ids : List ℕ) → ltb x y ≡ true → insert_key nat_cmp (x ∷ ids) y ≡ x ∷ insert_key nat_cmp ids y
    behind x y ids e = grind (arith, nat_tests)

    step : (b : Bool) → insert_key nat_cmp (x ∷ ids) t.id ≡ x ∷ insert_key nat_cmp ids t.id → ((ids : List ℕ) → with_ids (ids_of q ts) (x ∷ ids) ≡ x ∷ with_ids (ids_of q ts) ids) → with_ids (map (λ t. t.id) (cond {A = List Request} b (t ∷ filter q ts) (filter q ts))) (x ∷ ids) ≡ x ∷ with_ids (map (λ t. t.id) (cond {A = List Request} b (t ∷ filter q ts) (filter q ts))) ids
    step true e more = ap (with_ids (ids_of q ts)) e ∙ more (insert_key nat_cmp ids t.id)
    step false e more = more ids

-- the ids of the ones among those of the others are those of either
pub ids-either : (a b : Request → Bool) (ts : List Request) → rising (λ t. t.id) ts ≡ true → with_ids (ids_of a ts) (ids_of b ts) ≡ ids_of (λ t. a t || b t) ts
ids-either a b [] up = refl
ids-either a b (t ∷ ts) up = step (a t) (b t) (front _ _ up) (ids-either a b ts (rest-true _ _ up))
  where
    front : (x y : Bool) → (x && y) ≡ true → x ≡ true
    front x y e = grind arith

    step : (x y : Bool) → list_all (λ y. ltb t.id y.id) ts ≡ true → with_ids (ids_of a ts) (ids_of b ts) ≡ ids_of (λ t. a t || b t) ts → with_ids (map (λ t. t.id) (cond {A = List Request} x (t ∷ filter a ts) (filter a ts))) (map (λ t. t.id) (cond {A = List Request} y (t ∷ filter b ts) (filter b ts))) ≡ map (λ t. t.id) (cond {A = List Request} (x || y) (t ∷ filter (λ t. a t || b t) ts) (filter (λ t. a t || b t) ts))
    step true true later more = ap (with_ids (ids_of a ts)) (insert-again t.id (ids_of b ts)) ∙ with-above t.id a ts (ids_of b ts) later ∙ ap (λ (is : List ℕ). t.id ∷ is) more
    step true false later more = ap (with_ids (ids_of a ts)) (insert-below t.id b ts later) ∙ with-above t.id a ts (ids_of b ts) later ∙ ap (λ (is : List ℕ). t.id ∷ is) more
    step false true later more = with-above t.id a ts (ids_of b ts) later ∙ ap (λ (is : List ℕ). t.id ∷ is) more
    step false false later more = more

-- Three places that cover all.

find-same : (a b : Request → Bool) → ((t : Request) → a t ≡ b t) → (ts : List Request) → find a ts ≡ find b ts
find-same a b h [] = refl
find-same a b h (t ∷ ts) = grind (arith, h t, find-same a b h ts)

filter-same : (a b : Request → Bool) → ((t : Request) → a t ≡ b t) → (ts : List Request) → filter a ts ≡ filter b ts
filter-same a b h [] = refl
filter-same a b h (t ∷ ts) = grind (arith, h t, filter-same a b h ts)

-- each that suits lies at one of the places
abbrev pub Covers : (Request → Bool) → (Request → ℕ) → Option ℕ → Option ℕ → Option ℕ → Type 0
Covers q p x y z = (t : Request) → q t ≡ true → (lies_there p x t || (lies_there p y t || lies_there p z t)) ≡ true

covered : (a b c q : Bool) → (q ≡ true → (a || (b || c)) ≡ true) → ((a && q) || ((b && q) || (c && q))) ≡ q
covered a b c true h = grind (arith, h refl)
covered a b c false h = grind arith

pub first-of-three : (q : Request → Bool) (p : Request → ℕ) (x y z : Option ℕ) (ts : List Request) (ks : List ℕ) → IsIndexed p ts ks → Covers q p x y z → lesser (first_led q ts (keys_at x ks)) (lesser (first_led q ts (keys_at y ks)) (first_led q ts (keys_at z ks))) ≡ first_of q ts
first-of-three q p x y z ts ks h covers =
    rw (first-at q p x ts ks h, first-at q p y ts ks h, first-at q p z ts ks h)
    (ap (lesser (first_of (λ t. lies_there p x t && q t) ts)) (first-either (λ t. lies_there p y t && q t) (λ t. lies_there p z t && q t) ts h.requests_rise)
    ∙ first-either (λ t. lies_there p x t && q t) (λ t. (lies_there p y t && q t) || (lies_there p z t && q t)) ts h.requests_rise
    ∙ ap (option_map (λ (t : Request). t.id)) (find-same (λ t. (lies_there p x t && q t) || ((lies_there p y t && q t) || (lies_there p z t && q t))) q (λ t. covered (lies_there p x t) (lies_there p y t) (lies_there p z t) (q t) (covers t)) ts))

nothing-yet : (ts : List Request) → [] ≡ ids_of (λ t. false) ts
nothing-yet [] = refl
nothing-yet (t ∷ ts) = nothing-yet ts

pub all-of-three : (q : Request → Bool) (p : Request → ℕ) (x y z : Option ℕ) (ts : List Request) (ks : List ℕ) → IsIndexed p ts ks → Covers q p x y z → with_led q ts (keys_at x ks) (with_led q ts (keys_at y ks) (with_led q ts (keys_at z ks) [])) ≡ ids_of q ts
all-of-three q p x y z ts ks h covers =
    led-at q p x ts ks _ h
    ∙ ap (with_ids (ids_of (λ t. lies_there p x t && q t) ts)) (led-at q p y ts ks _ h
    ∙ ap (with_ids (ids_of (λ t. lies_there p y t && q t) ts)) (led-at q p z ts ks [] h
    ∙ ap (with_ids (ids_of (λ t. lies_there p z t && q t) ts)) (nothing-yet ts)
    ∙ ids-either (λ t. lies_there p z t && q t) (λ t. false) ts h.requests_rise)
    ∙ ids-either (λ t. lies_there p y t && q t) (λ t. (lies_there p z t && q t) || false) ts h.requests_rise)
    ∙ ids-either (λ t. lies_there p x t && q t) (λ t. (lies_there p y t && q t) || ((lies_there p z t && q t) || false)) ts h.requests_rise
    ∙ ap (map (λ (t : Request). t.id)) (filter-same (λ t. (lies_there p x t && q t) || ((lies_there p y t && q t) || ((lies_there p z t && q t) || false))) q (λ t. covered' (lies_there p x t) (lies_there p y t) (lies_there p z t) (q t) (covers t)) ts)
  where
    covered' : (a b c q : Bool) → (q ≡ true → (a || (b || c)) ≡ true) → ((a && q) || ((b && q) || ((c && q) || false))) ≡ q
    covered' a b c true h = grind (arith, h refl)
    covered' a b c false h = grind arith
