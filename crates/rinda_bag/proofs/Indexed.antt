-- An index of rows by their marks.
use Rattle.std.proofs.Common.{◌≡◌, ◌≢◌, ℕ, ◌%◌, ◌<◌, Bool, true, false, cond, not, ◌&&◌, ◌||◌, ltb, List, [], ◌∷◌, ◌++◌, map, Some, None, refl, sym, ◌∙◌, ap, subst, arith}
use Rattle.std.specs.Prelude.{filter, if◌then◌else◌, ◌==◌}
use Rattle.std.specs.List.{list_all, list_any}
use Rattle.std.specs.BTreeMap.{is_at}
use Rattle.std.specs.BTreeSet.{insert_key}
use Rattle.std.specs.Set.{remove_key}
use Rattle.std.specs.Ordering.{nat_cmp}
use Rattle.std.proofs.lemmas.Bool.Decides.{nat_tests}
use Rattle.std.proofs.lemmas.Nat.{mod-mul-add}
use Rattle.rinda_tuple.specs.declared.tuple.Tuple.{Tuple}
use Rattle.rinda_rules.specs.declared.plain.Entry.{Entry}
use Rattle.rinda_rules.specs.Rows.{row_of, changed, without, rising}
use Rattle.rinda_rules.proofs.Lists.{rising-map}
use Rattle.rinda_marks.specs.declared.secret.Secret.{Secret}
use Rattle.rinda_marks.specs.Marks.{has_mark, marks_of, mark_list}
use Rattle.rinda_marks.proofs.Marking.{distinct, distinct-marks}
use Rattle.rinda_bag.proofs.Listed.{none_later, rising-last, changed-id}
use Rattle.rinda_bag.specs.Indexes.{key_of, is_of, row_has, keys_with, IsIndexed, rows_at, with_keys, without_keys}

-- a key that is taken away again, or was put in, where it was not there
pub remove-insert : (q : ℕ) (ks : List ℕ) → list_any (is_at (nat_cmp q)) ks ≡ false → remove_key (is_at (nat_cmp q)) (insert_key nat_cmp ks q) ≡ ks
remove-insert q [] e = grind (arith, nat_tests)
remove-insert q (x ∷ ks) e = grind (arith, nat_tests, remove-insert q ks)

-- Searching.

key_id : (mark id : ℕ) → id < 18446744073709551616 → key_of mark id % 18446744073709551616 ≡ id
key_id mark id small = mod-mul-add mark 18446744073709551616 id small

-- each of these rows is found among all by its id
abbrev pub Found : List Entry → List Entry → Type 0
Found all [] = Unit {0}
Found all (t ∷ ts) = (row_of (λ t. t.id) t.id all ≡ Some t) × Found all ts

found-more : (x : Entry) (all ts : List Entry) → list_all (λ t. ltb x.id t.id) ts ≡ true → Found all ts → Found (x ∷ all) ts
found-more x all [] later f = tt
found-more x all (t ∷ ts) later f = (grind (arith, nat_tests, f.0), found-more x all ts (grind (arith, nat_tests)) f.1)

itself : (x : Entry) (xs : List Entry) → row_of (λ t. t.id) x.id (x ∷ xs) ≡ Some x
itself x xs = grind (arith, nat_tests)

found-all : (ts : List Entry) → rising (λ t. t.id) ts ≡ true → Found ts ts
found-all [] up = tt
found-all (t ∷ ts) up = (itself t ts, found-more t ts ts (grind (arith, nat_tests)) (found-all ts (grind (arith, nat_tests))))

found-filter : (all : List Entry) (q : Entry → Bool) (ts : List Entry) → Found all ts → Found all (filter q ts)
found-filter all q [] f = tt
found-filter all q (t ∷ ts) f = by_test (q t) (found-filter all q ts f.1)
  where
    by_test : (b : Bool) → Found all (filter q ts) → Found all (cond {A = List Entry} b (t ∷ filter q ts) (filter q ts))
    by_test true rest = (f.0, rest)
    by_test false rest = rest

-- rows, by their keys
rows-keys : (mark : ℕ) (all rows : List Entry) → list_all (λ t. ltb t.id 18446744073709551616) rows ≡ true → Found all rows → rows_at all (map (λ t. key_of mark t.id) rows) ≡ rows
rows-keys mark all [] small f = refl
rows-keys mark all (t ∷ ts) small f = step (key_id mark t.id (low t.id _ small)) (rows-keys mark all ts (rest _ _ small) f.1)
  where
    low : (i : ℕ) (b : Bool) → (ltb i 18446744073709551616 && b) ≡ true → i < 18446744073709551616
    low i b e = grind (arith, nat_tests)

    rest : (a b : Bool) → (a && b) ≡ true → b ≡ true
    rest a b e = grind arith

    step : key_of mark t.id % 18446744073709551616 ≡ t.id → rows_at all (map (λ t. key_of mark t.id) ts) ≡ ts → rows_at all (key_of mark t.id ∷ map (λ t. key_of mark t.id) ts) ≡ t ∷ ts
    step e more = rw (e, f.0, more) refl

all_filter : (p q : Entry → Bool) (ts : List Entry) → list_all p ts ≡ true → list_all p (filter q ts) ≡ true
all_filter p q [] e = refl
all_filter p q (t ∷ ts) e = grind (arith, all_filter p q ts)

-- the rows under a mark are those that have it
pub rows-under : (secret : Secret) (mark : ℕ) (rows : List Entry) (keys : List ℕ) → IsIndexed secret rows keys → rows_at rows (filter (is_of mark) keys) ≡ filter (row_has secret mark) rows
rows-under secret mark rows keys h =
    ap (rows_at rows) (h.under mark)
    ∙ rows-keys mark rows (filter (row_has secret mark) rows) (all_filter (λ t. ltb t.id 18446744073709551616) (row_has secret mark) rows h.small) (found-filter rows (row_has secret mark) rows (found-all rows h.rows_rise))

-- Adding a row.

filter-insert-other : (p : ℕ → Bool) (q : ℕ) (ks : List ℕ) → p q ≡ false → filter p (insert_key nat_cmp ks q) ≡ filter p ks
filter-insert-other p q [] e = grind (arith, nat_tests)
filter-insert-other p q (x ∷ ks) e = grind (arith, nat_tests, filter-insert-other p q ks)

none-after : (p : ℕ → Bool) (q x : ℕ) (ks : List ℕ) → q < x → list_all (λ y. ltb x y) ks ≡ true → list_all (λ y. not (p y) || ltb y q) ks ≡ true → filter p ks ≡ []
none-after p q x [] lt later e = refl
none-after p q x (y ∷ ks) lt later e = grind (arith, nat_tests, none-after p q x ks)

filter-insert-last : (p : ℕ → Bool) (q : ℕ) (ks : List ℕ) → p q ≡ true → rising (λ k. k) ks ≡ true → list_all (λ y. not (p y) || ltb y q) ks ≡ true → filter p (insert_key nat_cmp ks q) ≡ filter p ks ++ q ∷ []
filter-insert-last p q [] e up low = grind (arith, nat_tests)
filter-insert-last p q (x ∷ ks) e up low = grind (arith, nat_tests, none-after p q x ks, filter-insert-last p q ks)

above : (x q : ℕ) (ks : List ℕ) → x < q → list_all (λ y. ltb x y) ks ≡ true → list_all (λ y. ltb x y) (insert_key nat_cmp ks q) ≡ true
above x q [] lt e = grind (arith, nat_tests)
above x q (y ∷ ks) lt e = grind (arith, nat_tests, above x q ks)

later-still : (x y : ℕ) (ks : List ℕ) → x < y → list_all (λ k. ltb y k) ks ≡ true → list_all (λ k. ltb x k) ks ≡ true
later-still x y [] lt e = refl
later-still x y (k ∷ ks) lt e = grind (arith, nat_tests, later-still x y ks)

rising-insert : (q : ℕ) (ks : List ℕ) → rising (λ k. k) ks ≡ true → rising (λ k. k) (insert_key nat_cmp ks q) ≡ true
rising-insert q [] up = refl
rising-insert q (x ∷ ks) up = grind (arith, nat_tests, later-still q x ks, above x q ks, rising-insert q ks)

rising-remove : (q : ℕ) (ks : List ℕ) → rising (λ k. k) ks ≡ true → rising (λ k. k) (remove_key (is_at (nat_cmp q)) ks) ≡ true
rising-remove q [] up = refl
rising-remove q (x ∷ ks) up = grind (arith, nat_tests, above-remove x q ks, rising-remove q ks)
  where
    above-remove : (x q : ℕ) (ks : List ℕ) → list_all (λ y. ltb x y) ks ≡ true → list_all (λ y. ltb x y) (remove_key (is_at (nat_cmp q)) ks) ≡ true
    above-remove x q [] e = refl
    above-remove x q (y ∷ ks) e = grind (arith, nat_tests, above-remove x q ks)

filter-remove-other : (p : ℕ → Bool) (q : ℕ) (ks : List ℕ) → p q ≡ false → filter p (remove_key (is_at (nat_cmp q)) ks) ≡ filter p ks
filter-remove-other p q [] e = refl
filter-remove-other p q (x ∷ ks) e = grind (arith, nat_tests, filter-remove-other p q ks)

filter-remove-same : (p : ℕ → Bool) (q : ℕ) (ks : List ℕ) → p q ≡ true → filter p (remove_key (is_at (nat_cmp q)) ks) ≡ remove_key (is_at (nat_cmp q)) (filter p ks)
filter-remove-same p q [] e = refl
filter-remove-same p q (x ∷ ks) e = grind (arith, nat_tests, filter-remove-same p q ks)

is_of_itself : (m id : ℕ) → id < 18446744073709551616 → is_of m (key_of m id) ≡ true
is_of_itself m id small = grind (arith, nat_tests)

is_of_other : (m n id : ℕ) → id < 18446744073709551616 → n ≢ m → is_of m (key_of n id) ≡ false
is_of_other m n id small ne = grind (arith, nat_tests)

no_more : (m : ℕ) (ms : List ℕ) → list_all (λ k. not (k == m)) ms ≡ true → list_any (λ n. n == m) ms ≡ false
no_more m [] e = refl
no_more m (k ∷ ms) e = grind (arith, nat_tests, no_more m ms)

-- nothing under the mark is at or above the key
abbrev pub Low : ℕ → List ℕ → ℕ → Type 0
Low m ks q = list_all (λ y. not (is_of m y) || ltb y q) ks ≡ true

under-other : (m n id : ℕ) (ks : List ℕ) → id < 18446744073709551616 → n ≢ m → filter (is_of m) (insert_key nat_cmp ks (key_of n id)) ≡ filter (is_of m) ks
under-other m n id ks small ne = filter-insert-other (is_of m) (key_of n id) ks (is_of_other m n id small ne)

-- what is low stays so when another mark's key comes
low-other : (m n id : ℕ) (q : ℕ) (ks : List ℕ) → id < 18446744073709551616 → n ≢ m → Low m ks q → Low m (insert_key nat_cmp ks (key_of n id)) q
low-other m n id q ks small ne low = all-insert (λ y. not (is_of m y) || ltb y q) (key_of n id) ks (one (is_of m (key_of n id)) (ltb (key_of n id) q) (is_of_other m n id small ne)) low
  where
    one : (a b : Bool) → a ≡ false → (not a || b) ≡ true
    one a b e = grind arith

    all-insert : (p : ℕ → Bool) (q : ℕ) (ks : List ℕ) → p q ≡ true → list_all p ks ≡ true → list_all p (insert_key nat_cmp ks q) ≡ true
    all-insert p q [] e f = grind arith
    all-insert p q (x ∷ ks) e f = grind (arith, nat_tests, all-insert p q ks)

-- a row's keys come under its marks, and nothing else changes
under-with : (m id : ℕ) (ms : List ℕ) (ks : List ℕ) → id < 18446744073709551616 → distinct ms ≡ true → rising (λ k. k) ks ≡ true → Low m ks (key_of m id) → filter (is_of m) (with_keys ms id ks) ≡ filter (is_of m) ks ++ (if list_any (λ n. n == m) ms then key_of m id ∷ [] else [])
under-with m id [] ks small d up low = sym (append_none (filter (is_of m) ks))
  where
    append_none : (xs : List ℕ) → xs ++ [] ≡ xs
    append_none [] = refl
    append_none (x ∷ xs) = grind (arith, append_none xs)
under-with m id (n ∷ ms) ks small d up low =
    by_test (n == m) refl (λ ne. under-with m id ms (insert_key nat_cmp ks (key_of n id)) small (rest _ _ d) (rising-insert (key_of n id) ks up) (low-other m n id (key_of m id) ks small ne low))
  where
    rest : (a b : Bool) → (a && b) ≡ true → b ≡ true
    rest a b e = grind arith

    first : (a b : Bool) → (a && b) ≡ true → a ≡ true
    first a b e = grind arith

    apart : (n m : ℕ) → n == m ≡ false → n ≢ m
    apart n m e = grind (arith, nat_tests)

    same : (n m : ℕ) → n == m ≡ true → n ≡ m
    same n m e = grind (arith, nat_tests)

    more-other : (m id : ℕ) (ms ks : List ℕ) → id < 18446744073709551616 → list_any (λ n. n == m) ms ≡ false → filter (is_of m) (with_keys ms id ks) ≡ filter (is_of m) ks
    more-other m id [] ks small e = refl
    more-other m id (n ∷ ms) ks small e = more-other m id ms (insert_key nat_cmp ks (key_of n id)) small (grind arith) ∙ under-other m n id ks small (grind (arith, nat_tests))

    by_test : (b : Bool) → n == m ≡ b → (n ≢ m → filter (is_of m) (with_keys ms id (insert_key nat_cmp ks (key_of n id))) ≡ filter (is_of m) (insert_key nat_cmp ks (key_of n id)) ++ (if list_any (λ n. n == m) ms then key_of m id ∷ [] else [])) → filter (is_of m) (with_keys ms id (insert_key nat_cmp ks (key_of n id))) ≡ filter (is_of m) ks ++ (if b || list_any (λ n. n == m) ms then key_of m id ∷ [] else [])
    by_test false is more = rw (← under-other m n id ks small (apart n m is)) (more (apart n m is))
    by_test true is more =
        more-other m id ms (insert_key nat_cmp ks (key_of n id)) small (no_more m ms (subst (λ (n : ℕ). list_all (λ k. not (k == n)) ms ≡ true) (same n m is) (first _ _ d)))
        ∙ ap (λ (n : ℕ). filter (is_of m) (insert_key nat_cmp ks (key_of n id))) (same n m is)
        ∙ filter-insert-last (is_of m) (key_of m id) ks (is_of_itself m id small) up low

-- Rows that come and leave, and their keys with them.

rising-with : (ms : List ℕ) (id : ℕ) (ks : List ℕ) → rising (λ k. k) ks ≡ true → rising (λ k. k) (with_keys ms id ks) ≡ true
rising-with [] id ks up = up
rising-with (m ∷ ms) id ks up = rising-with ms id (insert_key nat_cmp ks (key_of m id)) (rising-insert (key_of m id) ks up)

pub rising-without-keys : (ms : List ℕ) (id : ℕ) (ks : List ℕ) → rising (λ k. k) ks ≡ true → rising (λ k. k) (without_keys ms id ks) ≡ true
rising-without-keys [] id ks up = up
rising-without-keys (m ∷ ms) id ks up = rising-without-keys ms id (remove_key (is_at (nat_cmp (key_of m id))) ks) (rising-remove (key_of m id) ks up)

of-filter : (p q : ℕ → Bool) (ks : List ℕ) → list_all q (filter p ks) ≡ true → list_all (λ y. not (p y) || q y) ks ≡ true
of-filter p q [] e = refl
of-filter p q (k ∷ ks) e = grind (arith, of-filter p q ks)

low-keys : (m id : ℕ) (has : Entry → Bool) (ts : List Entry) → list_all (λ t. ltb t.id id) ts ≡ true → list_all (λ y. ltb y (key_of m id)) (map (λ t. key_of m t.id) (filter has ts)) ≡ true
low-keys m id has [] e = refl
low-keys m id has (t ∷ ts) e = grind (arith, nat_tests, low-keys m id has ts)

keys-last : (m : ℕ) (has : Entry → Bool) (ts : List Entry) (t : Entry) → map (λ t. key_of m t.id) (filter has (ts ++ t ∷ [])) ≡ map (λ t. key_of m t.id) (filter has ts) ++ (if has t then key_of m t.id ∷ [] else [])
keys-last m has [] t = grind arith
keys-last m has (x ∷ ts) t = grind (arith, keys-last m has ts t)

small-last : (ts : List Entry) (t : Entry) → list_all (λ t. ltb t.id 18446744073709551616) ts ≡ true → t.id < 18446744073709551616 → list_all (λ t. ltb t.id 18446744073709551616) (ts ++ t ∷ []) ≡ true
small-last [] t e small = grind (arith, nat_tests)
small-last (x ∷ ts) t e small = grind (arith, nat_tests, small-last ts t)

pub indexed-put : (secret : Secret) (rows : List Entry) (keys : List ℕ) (t : Entry) → IsIndexed secret rows keys → list_all (λ x. ltb x.id t.id) rows ≡ true → t.id < 18446744073709551616 → IsIndexed secret (rows ++ t ∷ []) (with_keys (mark_list (marks_of secret t.value)) t.id keys)
indexed-put secret rows keys t h low small = record {
  under = λ m.
      under-with m t.id (mark_list (marks_of secret t.value)) keys small (distinct-marks secret t.value) h.keys_rise (of-filter (is_of m) (λ y. ltb y (key_of m t.id)) keys (rw (h.under m) (low-keys m t.id (row_has secret m) rows low)))
      ∙ ap (λ (ks : List ℕ). ks ++ (if row_has secret m t then key_of m t.id ∷ [] else [])) (h.under m)
      ∙ sym (keys-last m (row_has secret m) rows t);
  small = small-last rows t h.small small;
  rows_rise = rising-last rows t h.rows_rise low;
  keys_rise = rising-with (mark_list (marks_of secret t.value)) t.id keys h.keys_rise;
}

-- taking a row out

under-without-other : (m id : ℕ) (ms : List ℕ) (ks : List ℕ) → id < 18446744073709551616 → list_any (λ n. n == m) ms ≡ false → filter (is_of m) (without_keys ms id ks) ≡ filter (is_of m) ks
under-without-other m id [] ks small e = refl
under-without-other m id (n ∷ ms) ks small e = under-without-other m id ms (remove_key (is_at (nat_cmp (key_of n id))) ks) small (grind arith) ∙ filter-remove-other (is_of m) (key_of n id) ks (is_of_other m n id small (grind (arith, nat_tests)))

pub under-without : (m id : ℕ) (ms : List ℕ) (ks : List ℕ) → id < 18446744073709551616 → distinct ms ≡ true → filter (is_of m) (without_keys ms id ks) ≡ (if list_any (λ n. n == m) ms then remove_key (is_at (nat_cmp (key_of m id))) (filter (is_of m) ks) else filter (is_of m) ks)
under-without m id [] ks small d = refl
under-without m id (n ∷ ms) ks small d =
    by_test (n == m) refl (λ _. under-without m id ms (remove_key (is_at (nat_cmp (key_of n id))) ks) small (rest _ _ d))
  where
    rest : (a b : Bool) → (a && b) ≡ true → b ≡ true
    rest a b e = grind arith

    first : (a b : Bool) → (a && b) ≡ true → a ≡ true
    first a b e = grind arith

    apart : (n m : ℕ) → n == m ≡ false → n ≢ m
    apart n m e = grind (arith, nat_tests)

    same : (n m : ℕ) → n == m ≡ true → n ≡ m
    same n m e = grind (arith, nat_tests)

    by_test : (b : Bool) → n == m ≡ b → (Unit {0} → filter (is_of m) (without_keys ms id (remove_key (is_at (nat_cmp (key_of n id))) ks)) ≡ (if list_any (λ n. n == m) ms then remove_key (is_at (nat_cmp (key_of m id))) (filter (is_of m) (remove_key (is_at (nat_cmp (key_of n id))) ks)) else filter (is_of m) (remove_key (is_at (nat_cmp (key_of n id))) ks))) → filter (is_of m) (without_keys ms id (remove_key (is_at (nat_cmp (key_of n id))) ks)) ≡ (if b || list_any (λ n. n == m) ms then remove_key (is_at (nat_cmp (key_of m id))) (filter (is_of m) ks) else filter (is_of m) ks)
    by_test false is more = rw (← filter-remove-other (is_of m) (key_of n id) ks (is_of_other m n id small (apart n m is))) (more tt)
    by_test true is more =
        under-without-other m id ms (remove_key (is_at (nat_cmp (key_of n id))) ks) small (no_more m ms (subst (λ (n : ℕ). list_all (λ k. not (k == n)) ms ≡ true) (same n m is) (first _ _ d)))
        ∙ ap (λ (n : ℕ). filter (is_of m) (remove_key (is_at (nat_cmp (key_of n id))) ks)) (same n m is)
        ∙ filter-remove-same (is_of m) (key_of m id) ks (is_of_itself m id small)

same-key : (m a b : ℕ) → key_of m a ≡ key_of m b → a ≡ b
same-key m a b e = omega arith

pub remove-map : (m id : ℕ) (ts : List Entry) → rising (λ t. t.id) ts ≡ true → remove_key (is_at (nat_cmp (key_of m id))) (map (λ t. key_of m t.id) ts) ≡ map (λ t. key_of m t.id) (without (λ t. t.id) id ts)
remove-map m id [] up = refl
remove-map m id (t ∷ ts) up = grind (arith, nat_tests, none_later id ts, remove-map m id ts)

pub filter-without : (q : Entry → Bool) (id : ℕ) (ts : List Entry) → filter q (without (λ t. t.id) id ts) ≡ without (λ t. t.id) id (filter q ts)
filter-without q id [] = refl
filter-without q id (t ∷ ts) = grind (arith, nat_tests, filter-without q id ts)

pub rising-filter : (q : Entry → Bool) (ts : List Entry) → rising (λ t. t.id) ts ≡ true → rising (λ t. t.id) (filter q ts) ≡ true
rising-filter q ts up = Rattle.rinda_rules.proofs.Lists.rising-filter (λ t. t.id) q ts up

none-leaves : (q : Entry → Bool) (id : ℕ) (ts : List Entry) (t : Entry) → rising (λ t. t.id) ts ≡ true → row_of (λ t. t.id) id ts ≡ Some t → q t ≡ false → filter q (without (λ t. t.id) id ts) ≡ filter q ts
none-leaves q id [] t up there e = refl
none-leaves q id (x ∷ ts) t up there e = grind (arith, nat_tests, none_later id ts, none-leaves q id ts t)

pub row-small : (id : ℕ) (ts : List Entry) (t : Entry) → list_all (λ t. ltb t.id 18446744073709551616) ts ≡ true → row_of (λ t. t.id) id ts ≡ Some t → id < 18446744073709551616
row-small id [] t small there = cc
row-small id (x ∷ ts) t small there = grind (arith, nat_tests, row-small id ts t)

pub indexed-taken : (secret : Secret) (rows : List Entry) (keys : List ℕ) (id : ℕ) (t : Entry) → IsIndexed secret rows keys → row_of (λ t. t.id) id rows ≡ Some t → IsIndexed secret (without (λ t. t.id) id rows) (without_keys (mark_list (marks_of secret t.value)) id keys)
indexed-taken secret rows keys id t h there =
    let small : id < 18446744073709551616 = row-small id rows t h.small there in
    record {
      under = λ m. under-without m id (mark_list (marks_of secret t.value)) keys small (distinct-marks secret t.value) ∙ by_test m (row_has secret m t) refl;
      small = all_filter (λ t. ltb t.id 18446744073709551616) (λ t. not (t.id == id)) rows h.small;
      rows_rise = rising-filter (λ t. not (t.id == id)) rows h.rows_rise;
      keys_rise = rising-without-keys (mark_list (marks_of secret t.value)) id keys h.keys_rise;
    }
  where
    by_test : (m : ℕ) (b : Bool) → row_has secret m t ≡ b → (if b then remove_key (is_at (nat_cmp (key_of m id))) (filter (is_of m) keys) else filter (is_of m) keys) ≡ keys_with secret m (without (λ t. t.id) id rows)
    by_test m true e =
        ap (remove_key (is_at (nat_cmp (key_of m id)))) (h.under m)
        ∙ remove-map m id (filter (row_has secret m) rows) (rising-filter (row_has secret m) rows h.rows_rise)
        ∙ ap (map (λ (t : Entry). key_of m t.id)) (sym (filter-without (row_has secret m) id rows))
    by_test m false e = h.under m ∙ ap (map (λ (t : Entry). key_of m t.id)) (sym (none-leaves (row_has secret m) id rows t h.rows_rise there e))

-- a row that keeps its id and value

same-map : {R : Type 0} (has : R → Bool) (key : R → ℕ) (g : R → R) → ((x : R) → has (g x) ≡ has x) → ((x : R) → key (g x) ≡ key x) → (xs : List R) → map key (filter has (map g xs)) ≡ map key (filter has xs)
same-map has key g h k [] = refl
same-map has key g h k (x ∷ xs) = grind (arith, h x, k x, same-map has key g h k xs)

pub all-map : {R : Type 0} (p : R → Bool) (g : R → R) → ((x : R) → p (g x) ≡ p x) → (xs : List R) → list_all p xs ≡ true → list_all p (map g xs) ≡ true
all-map p g h [] e = refl
all-map p g h (x ∷ xs) e = grind (arith, h x, all-map p g h xs)

changed-value : (id : ℕ) (f : Entry → Entry) → ((t : Entry) → (f t).value ≡ t.value) → (t : Entry) → (if t.id == id then f t else t).value ≡ t.value
changed-value id f keeps t = by_test (t.id == id)
  where
    by_test : (b : Bool) → (cond {A = Entry} b (f t) t).value ≡ t.value
    by_test true = keeps t
    by_test false = refl

pub indexed-changed : (secret : Secret) (rows : List Entry) (keys : List ℕ) (id : ℕ) (f : Entry → Entry) → ((t : Entry) → (f t).id ≡ t.id) → ((t : Entry) → (f t).value ≡ t.value) → IsIndexed secret rows keys → IsIndexed secret (changed (λ t. t.id) id f rows) keys
indexed-changed secret rows keys id f keeps same h =
    let g : Entry → Entry = λ t. if t.id == id then f t else t in
    record {
      under = λ m. h.under m ∙ sym (same-map (row_has secret m) (λ t. key_of m t.id) g (λ t. ap (λ (u : Tuple). has_mark m (marks_of secret u)) (changed-value id f same t)) (λ t. ap (key_of m) (changed-id id f keeps t)) rows);
      small = all-map (λ t. ltb t.id 18446744073709551616) g (λ t. ap (λ (i : ℕ). ltb i 18446744073709551616) (changed-id id f keeps t)) rows h.small;
      rows_rise = rising-map (λ t. t.id) g rows (changed-id id f keeps) h.rows_rise;
      keys_rise = h.keys_rise;
    }

-- the last row, and where there is none

pub row-last : (rows : List Entry) (t : Entry) → list_all (λ x. ltb x.id t.id) rows ≡ true → row_of (λ t. t.id) t.id (rows ++ t ∷ []) ≡ Some t
row-last [] t low = grind (arith, nat_tests)
row-last (x ∷ rows) t low = grind (arith, nat_tests, row-last rows t)

pub without-last : (rows : List Entry) (t : Entry) → list_all (λ x. ltb x.id t.id) rows ≡ true → without (λ t. t.id) t.id (rows ++ t ∷ []) ≡ rows
without-last [] t low = grind (arith, nat_tests)
without-last (x ∷ rows) t low = grind (arith, nat_tests, without-last rows t)

pub without-none : (id : ℕ) (rows : List Entry) → row_of (λ t. t.id) id rows ≡ None → without (λ t. t.id) id rows ≡ rows
without-none id [] e = refl
without-none id (x ∷ rows) e = grind (arith, nat_tests, without-none id rows)
