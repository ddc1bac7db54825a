-- A tuple that is lent, put back or taken out.
use Rattle.std.proofs.Common.{◌≡◌, ℕ, ◌<◌, Bool, true, false, not, ◌&&◌, ltb, List, [], ◌∷◌, map, Option, Some, None, refl, sym, ◌∙◌, ap, subst, cond, arith}
use Rattle.std.specs.Prelude.{filter, if◌then◌else◌, ◌==◌, IsSome}
use Rattle.std.specs.List.{list_all}
use Rattle.std.specs.Option.{option_map}
use Rattle.std.specs.BTreeMap.{is_at}
use Rattle.std.specs.Set.{remove_key}
use Rattle.std.specs.Ordering.{nat_cmp}
use Rattle.std.proofs.lemmas.Bool.Decides.{nat_tests}
use Rattle.rinda_tuple.specs.declared.tuple.Tuple.{Tuple}
use Rattle.rinda_tuple.specs.declared.tuple.Tuple.TheVariants as tuple
use Rattle.rinda_rules.specs.declared.plain.Entry.{Entry}
use Rattle.rinda_rules.specs.Rows.{row_of, changed, without, rising}
use Rattle.rinda_rules.proofs.Lists.{rising-map, all_filter}
use Rattle.rinda_marks.specs.declared.secret.Secret.{Secret}
use Rattle.rinda_marks.specs.declared.marks.Marks.{Marks}
use Rattle.rinda_marks.specs.Marks.{has_mark, marks_of, mark_list}
use Rattle.rinda_marks.proofs.Marking.{distinct, distinct-marks}
use Rattle.rinda_bag.specs.Indexes.{key_of, is_of, row_has, IsIndexed, without_keys}
use Rattle.rinda_bag.specs.Lending.{with_value, without_value, lent_has, differ, IsLent, IsLoanOf}
use Rattle.rinda_bag.proofs.Listed.{changed-id}
use Rattle.rinda_bag.proofs.Indexed.{under-without, remove-map, filter-without, rising-filter, all-map, rising-without-keys, row-small}

-- no later row has that id
later_apart : (id : ℕ) (f : Entry → Entry) (rows : List Entry) → list_all (λ t. ltb id t.id) rows ≡ true → changed (λ t. t.id) id f rows ≡ rows
later_apart id f [] e = refl
later_apart id f (x ∷ rows) e = grind (arith, nat_tests, later_apart id f rows)

later_same : (has lent : Entry → Bool) (mark id : ℕ) (rows : List Entry) → ((x : Entry) → x.id == id ≡ false → lent x ≡ has x) → list_all (λ t. ltb id t.id) rows ≡ true → map (λ t. key_of mark t.id) (filter lent rows) ≡ map (λ t. key_of mark t.id) (filter has rows)
later_same has lent mark id [] agree e = refl
later_same has lent mark id (x ∷ rows) agree e = grind (arith, nat_tests, agree x, later_same has lent mark id rows agree)

-- the rows under a mark, where one of them was changed
lent_keys : (has lent : Entry → Bool) (mark id : ℕ) (f : Entry → Entry) (rows : List Entry) (t : Entry) → rising (λ t. t.id) rows ≡ true → row_of (λ t. t.id) id rows ≡ Some t → ((x : Entry) → (f x).id ≡ x.id) → lent (f t) ≡ has t → ((x : Entry) → x.id == id ≡ false → lent x ≡ has x) → map (λ t. key_of mark t.id) (filter lent (changed (λ t. t.id) id f rows)) ≡ map (λ t. key_of mark t.id) (filter has rows)
lent_keys has lent mark id f [] t up there keeps here agree = cc
lent_keys has lent mark id f (x ∷ rows) t up there keeps here agree = grind (arith, nat_tests, keeps x, agree x, later_apart id f rows, later_same has lent mark id rows agree, lent_keys has lent mark id f rows t)

changed_has : (secret : Secret) (m id : ℕ) (marks : Marks) (x : Entry) → x.id == id ≡ false → lent_has secret id marks m x ≡ row_has secret m x
changed_has secret m id marks x e = by_test (x.id == id) e
  where
    by_test : (b : Bool) → b ≡ false → (if b then has_mark m marks else row_has secret m x) ≡ row_has secret m x
    by_test false e = refl
    by_test true e = cc

lent_is : (secret : Secret) (m id : ℕ) (marks : Marks) (x : Entry) → x.id ≡ id → lent_has secret id marks m x ≡ has_mark m marks
lent_is secret m id marks x e = by_test (x.id == id) (same x.id id e)
  where
    same : (a b : ℕ) → a ≡ b → a == b ≡ true
    same a b e = grind (arith, nat_tests)

    by_test : (b : Bool) → b ≡ true → (if b then has_mark m marks else row_has secret m x) ≡ has_mark m marks
    by_test true e = refl
    by_test false e = cc

row_id : (id : ℕ) (rows : List Entry) (t : Entry) → row_of (λ t. t.id) id rows ≡ Some t → t.id ≡ id
row_id id rows t e = Rattle.rinda_rules.proofs.Lists.row_has_id (λ t. t.id) id rows t e

differ_is : (ms : List ℕ) → differ ms ≡ distinct ms
differ_is [] = refl
differ_is (m ∷ ms) = ap (λ (b : Bool). list_all (λ k. not (k == m)) ms && b) (differ_is ms)

some_there : (id : ℕ) (f : Entry → Entry) (rows : List Entry) → ((x : Entry) → (f x).id ≡ x.id) → IsSome (row_of (λ t. t.id) id rows) → IsSome (row_of (λ t. t.id) id (changed (λ t. t.id) id f rows))
some_there id f [] keeps e = e
some_there id f (x ∷ rows) keeps e = grind (arith, nat_tests, keeps x, some_there id f rows)

pub lent-is : (secret : Secret) (rows : List Entry) (keys : List ℕ) (id : ℕ) (t : Entry) → IsIndexed secret rows keys → row_of (λ t. t.id) id rows ≡ Some t → IsLent secret id (marks_of secret t.value) (changed (λ t. t.id) id without_value rows) keys
lent-is secret rows keys id t h there =
    let g : Entry → Entry = λ t. if t.id == id then without_value t else t in
    record {
      under = λ m. h.under m ∙ sym (lent_keys (row_has secret m) (lent_has secret id (marks_of secret t.value) m) m id without_value rows t h.rows_rise there (λ x. refl) (lent_is secret m id (marks_of secret t.value) (without_value t) (row_id id rows t there)) (changed_has secret m id (marks_of secret t.value)));
      small = all-map (λ t. ltb t.id 18446744073709551616) g (λ t. ap (λ (i : ℕ). ltb i 18446744073709551616) (changed-id id without_value (λ x. refl) t)) rows h.small;
      rows_rise = rising-map (λ t. t.id) g rows (changed-id id without_value (λ x. refl)) h.rows_rise;
      keys_rise = h.keys_rise;
      there = some_there id without_value rows (λ x. refl) (some_is _ t there);
      apart = differ_is (mark_list (marks_of secret t.value)) ∙ distinct-marks secret t.value;
    }
  where
    some_is : (o : Option Entry) (t : Entry) → o ≡ Some t → IsSome o
    some_is o t e = subst (λ (o : Option Entry). IsSome o) (sym e) refl

pub loan-is : (secret : Secret) (rows : List Entry) (keys : List ℕ) (id : ℕ) (t : Entry) → IsIndexed secret rows keys → row_of (λ t. t.id) id rows ≡ Some t → IsLoanOf rows t.value id secret (marks_of secret t.value) (changed (λ t. t.id) id without_value rows)
loan-is secret rows keys id t h there = record {
  there = ap (option_map (λ (t : Entry). t.value)) there;
  emptied = refl;
  kept = refl;
  rise = h.rows_rise;
}

-- Putting it back.

same_keys : (has lent : Entry → Bool) (mark : ℕ) (g : Entry → Entry) → ((x : Entry) → has (g x) ≡ lent x) → ((x : Entry) → (g x).id ≡ x.id) → (rows : List Entry) → map (λ t. key_of mark t.id) (filter has (map g rows)) ≡ map (λ t. key_of mark t.id) (filter lent rows)
same_keys has lent mark g h k [] = refl
same_keys has lent mark g h k (x ∷ rows) = grind (arith, h x, k x, same_keys has lent mark g h k rows)

given_has : (secret : Secret) (m id : ℕ) (marks : Marks) (u : Tuple) → marks ≡ marks_of secret u → (x : Entry) → row_has secret m (if x.id == id then with_value u x else x) ≡ lent_has secret id marks m x
given_has secret m id marks u e x = by_test (x.id == id)
  where
    by_test : (b : Bool) → row_has secret m (cond {A = Entry} b (with_value u x) x) ≡ (if b then has_mark m marks else row_has secret m x)
    by_test true = ap (has_mark m) (sym e)
    by_test false = refl

pub given-back : (secret : Secret) (id : ℕ) (marks : Marks) (rows : List Entry) (keys : List ℕ) (u : Tuple) → IsLent secret id marks rows keys → marks ≡ marks_of secret u → IsIndexed secret (changed (λ t. t.id) id (with_value u) rows) keys
given-back secret id marks rows keys u h e =
    let g : Entry → Entry = λ t. if t.id == id then with_value u t else t in
    record {
      under = λ m. h.under m ∙ sym (same_keys (row_has secret m) (lent_has secret id marks m) m g (given_has secret m id marks u e) (changed-id id (with_value u) (λ x. refl)) rows);
      small = all-map (λ t. ltb t.id 18446744073709551616) g (λ t. ap (λ (i : ℕ). ltb i 18446744073709551616) (changed-id id (with_value u) (λ x. refl) t)) rows h.small;
      rows_rise = rising-map (λ t. t.id) g rows (changed-id id (with_value u) (λ x. refl)) h.rows_rise;
      keys_rise = h.keys_rise;
    }

-- a row that is emptied and filled again
filled : (x : Entry) (u : Tuple) → Some x.value ≡ Some u → with_value u (without_value x) ≡ x
filled x u e = subst (λ (u : Tuple). with_value u (without_value x) ≡ x) (some_same e) refl
  where
    some_same : {a b : Tuple} → Some a ≡ Some b → a ≡ b
    some_same e = cc

restored : (id : ℕ) (u : Tuple) (rows : List Entry) → rising (λ t. t.id) rows ≡ true → option_map (λ t. t.value) (row_of (λ t. t.id) id rows) ≡ Some u → changed (λ t. t.id) id (with_value u) (changed (λ t. t.id) id without_value rows) ≡ rows
restored id u [] up there = refl
restored id u (x ∷ rows) up there = grind (arith, nat_tests, filled x u, later_apart id without_value rows, later_apart id (with_value u) rows, restored id u rows)

pub loan-restored : (rows : List Entry) (u : Tuple) (id : ℕ) (secret : Secret) (marks : Marks) (left : List Entry) → IsLoanOf rows u id secret marks left → changed (λ t. t.id) id (with_value u) left ≡ rows
loan-restored rows u id secret marks left h = ap (changed (λ (t : Entry). t.id) id (with_value u)) h.emptied ∙ restored id u rows h.rise h.there

-- Taking it out.

rest_same : (has lent : Entry → Bool) (id : ℕ) → ((x : Entry) → x.id == id ≡ false → lent x ≡ has x) → (rows : List Entry) → filter lent (without (λ t. t.id) id rows) ≡ filter has (without (λ t. t.id) id rows)
rest_same has lent id agree [] = refl
rest_same has lent id agree (x ∷ rows) = grind (arith, nat_tests, agree x, rest_same has lent id agree rows)

none_lent : (has lent : Entry → Bool) (id : ℕ) → ((x : Entry) → x.id == id ≡ false → lent x ≡ has x) → ((x : Entry) → x.id ≡ id → lent x ≡ false) → (rows : List Entry) → filter lent rows ≡ filter has (without (λ t. t.id) id rows)
none_lent has lent id agree off [] = refl
none_lent has lent id agree off (x ∷ rows) = grind (arith, nat_tests, agree x, off x, none_lent has lent id agree off rows)

some_small : (id : ℕ) (rows : List Entry) → list_all (λ t. ltb t.id 18446744073709551616) rows ≡ true → IsSome (row_of (λ t. t.id) id rows) → id < 18446744073709551616
some_small id rows small e = by_row (row_of (λ t. t.id) id rows) refl e
  where
    by_row : (o : Option Entry) → row_of (λ t. t.id) id rows ≡ o → IsSome o → id < 18446744073709551616
    by_row None is e = cc
    by_row (Some t) is e = row-small id rows t small is

pub taken-out : (secret : Secret) (id : ℕ) (marks : Marks) (rows : List Entry) (keys : List ℕ) → IsLent secret id marks rows keys → IsIndexed secret (without (λ t. t.id) id rows) (without_keys (mark_list marks) id keys)
taken-out secret id marks rows keys h =
    record {
      under = λ m. under-without m id (mark_list marks) keys (some_small id rows h.small h.there) (sym (differ_is (mark_list marks)) ∙ h.apart) ∙ by_test m (has_mark m marks) refl;
      small = all_filter (λ t. ltb t.id 18446744073709551616) (λ t. not (t.id == id)) rows h.small;
      rows_rise = rising-filter (λ t. not (t.id == id)) rows h.rows_rise;
      keys_rise = rising-without-keys (mark_list marks) id keys h.keys_rise;
    }
  where
    by_test : (m : ℕ) (b : Bool) → has_mark m marks ≡ b → (if b then remove_key (is_at (nat_cmp (key_of m id))) (filter (is_of m) keys) else filter (is_of m) keys) ≡ map (λ t. key_of m t.id) (filter (row_has secret m) (without (λ t. t.id) id rows))
    by_test m true e =
        ap (remove_key (is_at (nat_cmp (key_of m id)))) (h.under m)
        ∙ remove-map m id (filter (lent_has secret id marks m) rows) (rising-filter (lent_has secret id marks m) rows h.rows_rise)
        ∙ ap (map (λ (t : Entry). key_of m t.id)) (sym (filter-without (lent_has secret id marks m) id rows) ∙ rest_same (row_has secret m) (lent_has secret id marks m) id (changed_has secret m id marks) rows)
    by_test m false e =
        h.under m ∙ ap (map (λ (t : Entry). key_of m t.id)) (none_lent (row_has secret m) (lent_has secret id marks m) id (changed_has secret m id marks) (λ x is. lent_is secret m id marks x is ∙ e) rows)

same_rest : (id : ℕ) (f : Entry → Entry) → ((x : Entry) → (f x).id ≡ x.id) → (rows : List Entry) → without (λ t. t.id) id (changed (λ t. t.id) id f rows) ≡ without (λ t. t.id) id rows
same_rest id f keeps [] = refl
same_rest id f keeps (x ∷ rows) = grind (arith, nat_tests, keeps x, same_rest id f keeps rows)

pub loan-rest : (rows : List Entry) (u : Tuple) (id : ℕ) (secret : Secret) (marks : Marks) (left : List Entry) → IsLoanOf rows u id secret marks left → without (λ t. t.id) id left ≡ without (λ t. t.id) id rows
loan-rest rows u id secret marks left h = ap (without (λ (t : Entry). t.id) id) h.emptied ∙ same_rest id without_value (λ x. refl) rows

-- Lending, as the code does it.

abbrev pick : Bool → Type 0 → Type 0
pick true P = P
pick false P = Unit {0}

impossible : (P : Type 0) (o : Option Entry) → o ≡ None → IsSome o → P
impossible P None e some = subst (λ (b : Bool). pick b P) some tt
impossible P (Some t) e some = subst (λ (b : Bool). pick b P) (never t e) tt
  where
    never : (t : Entry) → Some t ≡ None → false ≡ true
    never t e = cc

pub lent-by : (secret : Secret) (rows new : List Entry) (keys : List ℕ) (id : ℕ) (u value : Tuple) (marks : Marks) → IsIndexed secret rows keys → IsSome (row_of (λ t. t.id) id rows) → ((t : Entry) → row_of (λ t. t.id) id rows ≡ Some t → u ≡ t.value) → marks ≡ marks_of secret u → value ≡ tuple.List [] → new ≡ changed (λ t. t.id) id (with_value value) rows → IsLent secret id marks new keys
lent-by secret rows new keys id u value marks h there before is empty emptied = by_row (row_of (λ t. t.id) id rows) refl there
  where
    by_row : (o : Option Entry) → row_of (λ t. t.id) id rows ≡ o → IsSome o → IsLent secret id marks new keys
    by_row None e some = impossible _ None refl some
    by_row (Some t) e some = rw (is, before t e, emptied, empty) (lent-is secret rows keys id t h e)

pub loan-by : (secret : Secret) (rows new : List Entry) (keys : List ℕ) (id : ℕ) (u value : Tuple) (marks : Marks) → IsIndexed secret rows keys → IsSome (row_of (λ t. t.id) id rows) → ((t : Entry) → row_of (λ t. t.id) id rows ≡ Some t → u ≡ t.value) → marks ≡ marks_of secret u → value ≡ tuple.List [] → new ≡ changed (λ t. t.id) id (with_value value) rows → IsLoanOf rows u id secret marks new
loan-by secret rows new keys id u value marks h there before is empty emptied = by_row (row_of (λ t. t.id) id rows) refl there
  where
    by_row : (o : Option Entry) → row_of (λ t. t.id) id rows ≡ o → IsSome o → IsLoanOf rows u id secret marks new
    by_row None e some = impossible _ None refl some
    by_row (Some t) e some = rw (is, before t e, emptied, empty) (loan-is secret rows keys id t h e)

-- what is left of the row whose tuple was lent
pub loan-row : (rows : List Entry) (u : Tuple) (id : ℕ) (secret : Secret) (marks : Marks) (left : List Entry) (t x : Entry) → IsLoanOf rows u id secret marks left → row_of (λ t. t.id) id rows ≡ Some t → row_of (λ t. t.id) id left ≡ Some x → x ≡ without_value t
loan-row rows u id secret marks left t x h e f = some_same (sym f ∙ ap (row_of (λ (t : Entry). t.id) id) h.emptied ∙ Rattle.rinda_rules.proofs.Lists.row_changed_here (λ t. t.id) id without_value rows t (λ x. refl) e)
  where
    some_same : {a b : Entry} → Some a ≡ Some b → a ≡ b
    some_same e = cc
