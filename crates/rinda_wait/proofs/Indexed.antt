-- An index of requests while they come, change and leave.
use Rattle.std.proofs.Common.{◌≡◌, ◌≢◌, ℕ, ◌<◌, Bool, true, false, not, ◌||◌, ltb, List, [], ◌∷◌, ◌++◌, map, Option, Some, None, refl, sym, ◌∙◌, ap, arith}
use Rattle.std.specs.Prelude.{filter, if◌then◌else◌, ◌==◌}
use Rattle.std.specs.List.{list_all, list_any}
use Rattle.std.specs.BTreeMap.{is_at}
use Rattle.std.specs.BTreeSet.{insert_key}
use Rattle.std.specs.Set.{remove_key}
use Rattle.std.specs.Ordering.{nat_cmp}
use Rattle.std.proofs.lemmas.Bool.Decides.{nat_tests}
use Rattle.rinda_rules.specs.declared.plain.Request.{Request}
use Rattle.rinda_rules.specs.Rows.{row_of, changed, without, rising}
use Rattle.rinda_rules.proofs.Lists.{all_filter, rising-map, rising-filter}
use Rattle.rinda_wait.proofs.Listed.{none_later, rising-last, changed-id, unchanged}
use Rattle.rinda_wait.specs.Places.{key_of, is_of, lies_at, IsIndexed, without_key_of}

-- Keys in a set.

-- a key that is taken away again, or was put in, where it was not there
pub remove-insert : (q : ℕ) (ks : List ℕ) → list_any (is_at (nat_cmp q)) ks ≡ false → remove_key (is_at (nat_cmp q)) (insert_key nat_cmp ks q) ≡ ks
remove-insert q [] e = grind (arith, nat_tests)
remove-insert q (x ∷ ks) e = grind (arith, nat_tests, remove-insert q ks)

filter-insert-other : (p : ℕ → Bool) (q : ℕ) (ks : List ℕ) → p q ≡ false → filter p (insert_key nat_cmp ks q) ≡ filter p ks
filter-insert-other p q [] e = grind (arith, nat_tests)
filter-insert-other p q (x ∷ ks) e = grind (arith, nat_tests, filter-insert-other p q ks)

none-after : (p : ℕ → Bool) (q x : ℕ) (ks : List ℕ) → q < x → list_all (λ y. ltb x y) ks ≡ true → list_all (λ y. not (p y) || ltb y q) ks ≡ true → filter p ks ≡ []
none-after p q x [] lt later e = refl
none-after p q x (y ∷ ks) lt later e = grind (arith, nat_tests, none-after p q x ks)

filter-insert-last : (p : ℕ → Bool) (q : ℕ) (ks : List ℕ) → p q ≡ true → rising (λ k. k) ks ≡ true → list_all (λ y. not (p y) || ltb y q) ks ≡ true → filter p (insert_key nat_cmp ks q) ≡ filter p ks ++ q ∷ []
filter-insert-last p q [] e up low = grind (arith, nat_tests)
filter-insert-last p q (x ∷ ks) e up low = grind (arith, nat_tests, none-after p q x ks, filter-insert-last p q ks)

above : (x q : ℕ) (ks : List ℕ) → x < q → list_all (λ y. ltb x y) ks ≡ true → list_all (λ y. ltb x y) (insert_key nat_cmp ks q) ≡ true
above x q [] lt e = grind (arith, nat_tests)
above x q (y ∷ ks) lt e = grind (arith, nat_tests, above x q ks)

later-still : (x y : ℕ) (ks : List ℕ) → x < y → list_all (λ k. ltb y k) ks ≡ true → list_all (λ k. ltb x k) ks ≡ true
later-still x y [] lt e = refl
later-still x y (k ∷ ks) lt e = grind (arith, nat_tests, later-still x y ks)

rising-insert : (q : ℕ) (ks : List ℕ) → rising (λ k. k) ks ≡ true → rising (λ k. k) (insert_key nat_cmp ks q) ≡ true
rising-insert q [] up = refl
rising-insert q (x ∷ ks) up = grind (arith, nat_tests, later-still q x ks, above x q ks, rising-insert q ks)

above-remove : (x q : ℕ) (ks : List ℕ) → list_all (λ y. ltb x y) ks ≡ true → list_all (λ y. ltb x y) (remove_key (is_at (nat_cmp q)) ks) ≡ true
above-remove x q [] e = refl
above-remove x q (y ∷ ks) e = grind (arith, nat_tests, above-remove x q ks)

rising-remove : (q : ℕ) (ks : List ℕ) → rising (λ k. k) ks ≡ true → rising (λ k. k) (remove_key (is_at (nat_cmp q)) ks) ≡ true
rising-remove q [] up = refl
rising-remove q (x ∷ ks) up = grind (arith, nat_tests, above-remove x q ks, rising-remove q ks)

filter-remove-other : (p : ℕ → Bool) (q : ℕ) (ks : List ℕ) → p q ≡ false → filter p (remove_key (is_at (nat_cmp q)) ks) ≡ filter p ks
filter-remove-other p q [] e = refl
filter-remove-other p q (x ∷ ks) e = grind (arith, nat_tests, filter-remove-other p q ks)

filter-remove-same : (p : ℕ → Bool) (q : ℕ) (ks : List ℕ) → p q ≡ true → filter p (remove_key (is_at (nat_cmp q)) ks) ≡ remove_key (is_at (nat_cmp q)) (filter p ks)
filter-remove-same p q [] e = refl
filter-remove-same p q (x ∷ ks) e = grind (arith, nat_tests, filter-remove-same p q ks)

is_of_itself : (m id : ℕ) → id < 18446744073709551616 → is_of m (key_of m id) ≡ true
is_of_itself m id small = grind (arith, nat_tests)

is_of_other : (m n id : ℕ) → id < 18446744073709551616 → n ≢ m → is_of m (key_of n id) ≡ false
is_of_other m n id small ne = grind (arith, nat_tests)

apart : (n m : ℕ) → n == m ≡ false → n ≢ m
apart n m e = grind (arith, nat_tests)

same : (n m : ℕ) → n == m ≡ true → n ≡ m
same n m e = grind (arith, nat_tests)

-- Requests that come.

append_none : (xs : List ℕ) → xs ≡ xs ++ []
append_none [] = refl
append_none (x ∷ xs) = grind (arith, append_none xs)

-- a key comes last at its place, and nothing else changes
at-insert : (m n id : ℕ) (ks : List ℕ) → id < 18446744073709551616 → rising (λ k. k) ks ≡ true → list_all (λ y. not (is_of m y) || ltb y (key_of m id)) ks ≡ true → filter (is_of m) (insert_key nat_cmp ks (key_of n id)) ≡ filter (is_of m) ks ++ (if n == m then key_of m id ∷ [] else [])
at-insert m n id ks small up low = by_test (n == m) refl
  where
    by_test : (b : Bool) → n == m ≡ b → filter (is_of m) (insert_key nat_cmp ks (key_of n id)) ≡ filter (is_of m) ks ++ (if b then key_of m id ∷ [] else [])
    by_test false is = filter-insert-other (is_of m) (key_of n id) ks (is_of_other m n id small (apart n m is)) ∙ append_none (filter (is_of m) ks)
    by_test true is = ap (λ (n : ℕ). filter (is_of m) (insert_key nat_cmp ks (key_of n id))) (same n m is) ∙ filter-insert-last (is_of m) (key_of m id) ks (is_of_itself m id small) up low

of-filter : (p q : ℕ → Bool) (ks : List ℕ) → list_all q (filter p ks) ≡ true → list_all (λ y. not (p y) || q y) ks ≡ true
of-filter p q [] e = refl
of-filter p q (k ∷ ks) e = grind (arith, of-filter p q ks)

low-keys : (m id : ℕ) (has : Request → Bool) (ts : List Request) → list_all (λ t. ltb t.id id) ts ≡ true → list_all (λ y. ltb y (key_of m id)) (map (λ t. key_of m t.id) (filter has ts)) ≡ true
low-keys m id has [] e = refl
low-keys m id has (t ∷ ts) e = grind (arith, nat_tests, low-keys m id has ts)

keys-last : (m : ℕ) (has : Request → Bool) (ts : List Request) (t : Request) → map (λ t. key_of m t.id) (filter has (ts ++ t ∷ [])) ≡ map (λ t. key_of m t.id) (filter has ts) ++ (if has t then key_of m t.id ∷ [] else [])
keys-last m has [] t = grind arith
keys-last m has (x ∷ ts) t = grind (arith, keys-last m has ts t)

small-last : (ts : List Request) (t : Request) → list_all (λ t. ltb t.id 18446744073709551616) ts ≡ true → t.id < 18446744073709551616 → list_all (λ t. ltb t.id 18446744073709551616) (ts ++ t ∷ []) ≡ true
small-last [] t e small = grind (arith, nat_tests)
small-last (x ∷ ts) t e small = grind (arith, nat_tests, small-last ts t)

-- a request comes last, and its key with it
pub indexed-put : (p : Request → ℕ) (ts : List Request) (ks : List ℕ) (t : Request) → IsIndexed p ts ks → list_all (λ x. ltb x.id t.id) ts ≡ true → t.id < 18446744073709551616 → IsIndexed p (ts ++ t ∷ []) (insert_key nat_cmp ks (key_of (p t) t.id))
indexed-put p ts ks t h low small = record {
  at = λ m.
      at-insert m (p t) t.id ks small h.keys_rise (of-filter (is_of m) (λ y. ltb y (key_of m t.id)) ks (rw (h.at m) (low-keys m t.id (lies_at p m) ts low)))
      ∙ ap (λ (ks : List ℕ). ks ++ (if lies_at p m t then key_of m t.id ∷ [] else [])) (h.at m)
      ∙ sym (keys-last m (lies_at p m) ts t);
  small = small-last ts t h.small small;
  requests_rise = rising-last ts t h.requests_rise low;
  keys_rise = rising-insert (key_of (p t) t.id) ks h.keys_rise;
}

-- Requests that leave.

remove-map : (m id : ℕ) (ts : List Request) → rising (λ t. t.id) ts ≡ true → remove_key (is_at (nat_cmp (key_of m id))) (map (λ t. key_of m t.id) ts) ≡ map (λ t. key_of m t.id) (without (λ t. t.id) id ts)
remove-map m id [] up = refl
remove-map m id (t ∷ ts) up = grind (arith, nat_tests, none_later id ts, remove-map m id ts)

filter-without : (q : Request → Bool) (id : ℕ) (ts : List Request) → filter q (without (λ t. t.id) id ts) ≡ without (λ t. t.id) id (filter q ts)
filter-without q id [] = refl
filter-without q id (t ∷ ts) = grind (arith, nat_tests, filter-without q id ts)

none-leaves : (q : Request → Bool) (id : ℕ) (ts : List Request) (t : Request) → rising (λ t. t.id) ts ≡ true → row_of (λ t. t.id) id ts ≡ Some t → q t ≡ false → filter q (without (λ t. t.id) id ts) ≡ filter q ts
none-leaves q id [] t up there e = refl
none-leaves q id (x ∷ ts) t up there e = grind (arith, nat_tests, none_later id ts, none-leaves q id ts t)

row-small : (id : ℕ) (ts : List Request) (t : Request) → list_all (λ t. ltb t.id 18446744073709551616) ts ≡ true → row_of (λ t. t.id) id ts ≡ Some t → id < 18446744073709551616
row-small id [] t small there = cc
row-small id (x ∷ ts) t small there = grind (arith, nat_tests, row-small id ts t)

-- the keys at a place once that of a request is taken away
at-remove : (p : Request → ℕ) (ts : List Request) (ks : List ℕ) (id : ℕ) (t : Request) → IsIndexed p ts ks → row_of (λ t. t.id) id ts ≡ Some t → (m : ℕ) → filter (is_of m) (remove_key (is_at (nat_cmp (key_of (p t) id))) ks) ≡ map (λ t. key_of m t.id) (filter (lies_at p m) (without (λ t. t.id) id ts))
at-remove p ts ks id t h there m = by_test (p t == m) refl
  where
    small : id < 18446744073709551616
    small = row-small id ts t h.small there

    by_test : (b : Bool) → p t == m ≡ b → filter (is_of m) (remove_key (is_at (nat_cmp (key_of (p t) id))) ks) ≡ map (λ t. key_of m t.id) (filter (lies_at p m) (without (λ t. t.id) id ts))
    by_test false is =
        filter-remove-other (is_of m) (key_of (p t) id) ks (is_of_other m (p t) id small (apart (p t) m is))
        ∙ h.at m
        ∙ ap (map (λ (t : Request). key_of m t.id)) (sym (none-leaves (lies_at p m) id ts t h.requests_rise there is))
    by_test true is =
        ap (λ (n : ℕ). filter (is_of m) (remove_key (is_at (nat_cmp (key_of n id))) ks)) (same (p t) m is)
        ∙ filter-remove-same (is_of m) (key_of m id) ks (is_of_itself m id small)
        ∙ ap (remove_key (is_at (nat_cmp (key_of m id)))) (h.at m)
        ∙ remove-map m id (filter (lies_at p m) ts) (rising-filter (λ t. t.id) (lies_at p m) ts h.requests_rise)
        ∙ ap (map (λ (t : Request). key_of m t.id)) (sym (filter-without (lies_at p m) id ts))

-- a request is taken out, and its key with it
pub indexed-taken : (p : Request → ℕ) (ts : List Request) (ks : List ℕ) (id : ℕ) (t : Request) → IsIndexed p ts ks → row_of (λ t. t.id) id ts ≡ Some t → IsIndexed p (without (λ t. t.id) id ts) (remove_key (is_at (nat_cmp (key_of (p t) id))) ks)
indexed-taken p ts ks id t h there = record {
  at = at-remove p ts ks id t h there;
  small = all_filter (λ t. ltb t.id 18446744073709551616) (λ t. not (t.id == id)) ts h.small;
  requests_rise = rising-filter (λ t. t.id) (λ t. not (t.id == id)) ts h.requests_rise;
  keys_rise = rising-remove (key_of (p t) id) ks h.keys_rise;
}

-- Requests that change.

small-changed : (id : ℕ) (f : Request → Request) → ((t : Request) → (f t).id ≡ t.id) → (ts : List Request) → list_all (λ t. ltb t.id 18446744073709551616) ts ≡ true → list_all (λ t. ltb t.id 18446744073709551616) (changed (λ t. t.id) id f ts) ≡ true
small-changed id f keeps [] e = refl
small-changed id f keeps (x ∷ ts) e = grind (arith, nat_tests, keeps x, small-changed id f keeps ts)

rising-changed : (id : ℕ) (f : Request → Request) → ((t : Request) → (f t).id ≡ t.id) → (ts : List Request) → rising (λ t. t.id) ts ≡ true → rising (λ t. t.id) (changed (λ t. t.id) id f ts) ≡ true
rising-changed id f keeps ts up = rising-map (λ t. t.id) (λ t. if t.id == id then f t else t) ts (changed-id id f keeps) up

none-changed : (id : ℕ) (f : Request → Request) (ts : List Request) → list_all (λ t. ltb id t.id) ts ≡ true → changed (λ t. t.id) id f ts ≡ ts
none-changed id f [] e = refl
none-changed id f (t ∷ ts) e = grind (arith, nat_tests, none-changed id f ts)

keys-changed : (has : Request → Bool) (m id : ℕ) (f : Request → Request) (t : Request) → (f t).id ≡ t.id → has (f t) ≡ has t → (ts : List Request) → rising (λ t. t.id) ts ≡ true → row_of (λ t. t.id) id ts ≡ Some t → map (λ t. key_of m t.id) (filter has (changed (λ t. t.id) id f ts)) ≡ map (λ t. key_of m t.id) (filter has ts)
keys-changed has m id f t keeps lies [] up there = refl
keys-changed has m id f t keeps lies (x ∷ ts) up there = grind (arith, nat_tests, none-changed id f ts, keys-changed has m id f t keeps lies ts)

-- a request changes that stays at its place
pub indexed-kept : (p : Request → ℕ) (ts : List Request) (ks : List ℕ) (id : ℕ) (f : Request → Request) (t : Request) → IsIndexed p ts ks → row_of (λ t. t.id) id ts ≡ Some t → ((t : Request) → (f t).id ≡ t.id) → p (f t) ≡ p t → IsIndexed p (changed (λ t. t.id) id f ts) ks
indexed-kept p ts ks id f t h there keeps placed = record {
  at = λ m. h.at m ∙ sym (keys-changed (lies_at p m) m id f t (keeps t) (ap (λ (n : ℕ). n == m) placed) ts h.requests_rise there);
  small = small-changed id f keeps ts h.small;
  requests_rise = rising-changed id f keeps ts h.requests_rise;
  keys_rise = h.keys_rise;
}

-- each row that isn't there stays as it is
pub indexed-same : (p : Request → ℕ) (ts : List Request) (ks : List ℕ) (id : ℕ) (f : Request → Request) → IsIndexed p ts ks → ((t : Request) → (f t).id ≡ t.id) → ((t : Request) → p (f t) ≡ p t) → IsIndexed p (changed (λ t. t.id) id f ts) ks
indexed-same p ts ks id f h keeps placed = by_row (row_of (λ t. t.id) id ts) refl
  where
    by_row : (o : Option Request) → row_of (λ t. t.id) id ts ≡ o → IsIndexed p (changed (λ t. t.id) id f ts) ks
    by_row None e = rw (unchanged id f ts e) h
    by_row (Some t) e = indexed-kept p ts ks id f t h e keeps (placed t)

-- Rows that may not be there.

without-none : (id : ℕ) (ts : List Request) → row_of (λ t. t.id) id ts ≡ None → without (λ t. t.id) id ts ≡ ts
without-none id [] e = refl
without-none id (t ∷ ts) e = grind (arith, nat_tests, without-none id ts)

pub indexed-taken-row : (p : Request → ℕ) (ts : List Request) (ks : List ℕ) (id : ℕ) → IsIndexed p ts ks → IsIndexed p (without (λ t. t.id) id ts) (without_key_of p id (row_of (λ t. t.id) id ts) ks)
indexed-taken-row p ts ks id h = by_row (row_of (λ t. t.id) id ts) refl
  where
    by_row : (o : Option Request) → row_of (λ t. t.id) id ts ≡ o → IsIndexed p (without (λ t. t.id) id ts) (without_key_of p id o ks)
    by_row None e = rw (without-none id ts e) h
    by_row (Some t) e = indexed-taken p ts ks id t h e

-- the request that came last leaves again
pub without-last : (ts : List Request) (t : Request) → list_all (λ x. ltb x.id t.id) ts ≡ true → without (λ t. t.id) t.id (ts ++ t ∷ []) ≡ ts
without-last [] t low = grind (arith, nat_tests)
without-last (x ∷ ts) t low = grind (arith, nat_tests, without-last ts t)

pub indexed-none : (p : Request → ℕ) → IsIndexed p [] []
indexed-none p = record { at = λ m. refl; small = refl; requests_rise = refl; keys_rise = refl }
