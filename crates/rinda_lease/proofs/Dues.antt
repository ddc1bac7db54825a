-- Which ids are due, and the first that waits.
use Rattle.std.proofs.lemmas.Nat.{div-add-mod', mod_below}
use Rattle.std.proofs.lemmas.List.Sums.{sum_by-cons}
use Rattle.std.proofs.lemmas.List.Sorted.{sum_by-IsPermutation, IsNonDecreasingBy-from_sort}
use Prim.Native.Nat.{zero, suc}
use Rattle.std.proofs.Common.{◌≡◌, ◌∙◌, ℕ, ◌+◌, ◌/◌, ◌%◌, ◌<◌, ◌≤◌, Bool, true, false, List, [], ◌∷◌, length, get_or, Some, None, leb, refl, sym, ap, subst, arith}
use Rattle.std.specs.Prelude.{◌&&◌, ◌||◌, ◌==◌, nat_lt, nat_le, sum_by, if◌then◌else◌}
use Rattle.std.specs.Bool.{OnTrue, OnFalse}
use Rattle.std.specs.List.{list_all}
use Rattle.std.specs.List.Sorted.{IsPermutation, IsSorted, IsNonDecreasingBy}
use Rattle.std.specs.Ordering.{nat_cmp}
use Rattle.std.proofs.lemmas.Bool.Decides.{nat_tests}
use Rattle.rinda_lease.specs.declared.stage.Stage.{Stage}
use Rattle.rinda_lease.specs.declared.stage.Stage.TheVariants.{Still, Timed, Waiting, Asked}
use Rattle.rinda_lease.specs.Stages.{is_in, is_due, is_timed, is_waiting, stage_at, AreDue, AreTimed, IsNextAsk}
use Rattle.rinda_lease.specs.Orders.{key_of, is_slot, IsOrder, are_small, timed_slot, doubted_slot, due_ids, ids_of, is_still}
use Rattle.rinda_lease.proofs.KeyLists.{rise, is_in-above, is_in-at, first_is_least, all_of_get}
use Rattle.rinda_lease.proofs.Slots.{slot_of_key, id_of_key, key_is, stands}

-- the slots of keys rise with them
slots_climb : (j k : ℕ) → j ≤ k → j / 18446744073709551616 ≤ k / 18446744073709551616
slots_climb j k le = omega (arith, div-add-mod' j 18446744073709551616, div-add-mod' k 18446744073709551616, mod_below j 18446744073709551616 (omega arith), mod_below k 18446744073709551616 (omega arith))

-- who has a stage is an id
pub small_id : (entries : List (ℕ × Stage)) (id : ℕ) → are_small entries ≡ true → is_still (stage_at entries id) ≡ false → id < 18446744073709551616
small_id [] id s e = cc
small_id (x ∷ es) id s e = grind (arith, nat_tests, small_id es id)

-- Counting.

abbrev pub hit : ℕ → ℕ → ℕ
hit i x = if x == i then 1 else 0

counted : (i : ℕ) (xs : List ℕ) → is_in i xs ≡ nat_lt 0 (sum_by (hit i) xs)
counted i [] = refl
counted i (x ∷ xs) = rw (sum_by-cons (hit i) x xs) (grind (arith, nat_tests, counted i xs))

none_due : (i now : ℕ) (keys : List ℕ) → ((k : ℕ) → is_in k keys ≡ true → k % 18446744073709551616 ≡ i → ⊥) → sum_by (hit i) (due_ids now keys) ≡ 0
none_due i now [] h = refl
none_due i now (k ∷ ks) h =
    let apart : k % 18446744073709551616 ≡ i → ⊥ = h k (grind (arith, nat_tests)) in
    grind (arith, nat_tests, apart, sum_by-cons (hit i) (k % 18446744073709551616) (due_ids now ks), none_due i now ks (λ j a. h j (grind (arith, nat_tests, a))))

first_hit : (a b c d : Bool) (n : ℕ) → a ≡ true → b ≡ false → c ≡ true → d ≡ true → n ≡ (if b && d then 1 else 0) → (if a then 1 else 0) + n ≡ (if (c || b) && d then 1 else 0)
first_hit a b c d n e f g h m = grind arith

no_hit : (a b c d : Bool) (n : ℕ) → a ≡ false → c ≡ false → n ≡ (if b && d then 1 else 0) → (if a then 1 else 0) + n ≡ (if (c || b) && d then 1 else 0)
no_hit a b c d n e f m = grind arith

one_due : (i now K : ℕ) (keys : List ℕ) → rise keys ≡ true → K % 18446744073709551616 ≡ i → ((k : ℕ) → is_in k keys ≡ true → k % 18446744073709551616 ≡ i → k ≡ K) → sum_by (hit i) (due_ids now keys) ≡ (if is_in K keys && nat_le (K / 18446744073709551616) now then 1 else 0)
one_due i now K [] up e h = refl
one_due i now K (k ∷ ks) up e h =
    by_tests (nat_lt now (k / 18446744073709551616)) refl (k % 18446744073709551616 == i) refl
    (one_due i now K ks (grind arith) e (λ j a. h j (grind (arith, nat_tests, a))))
  where
    late : nat_lt now (k / 18446744073709551616) ≡ true → (is_in K (k ∷ ks) && nat_le (K / 18446744073709551616) now) ≡ false
    late t = by_in (is_in K (k ∷ ks)) refl
      where
        by_in : (b : Bool) → is_in K (k ∷ ks) ≡ b → (b && nat_le (K / 18446744073709551616) now) ≡ false
        by_in false a = refl
        by_in true a = grind (arith, nat_tests, slots_climb k K (first_is_least k K ks up a))

    here : k % 18446744073709551616 ≡ i → k ≡ K
    here a = h k (grind (arith, nat_tests)) a

    by_tests : (late_too : Bool) → nat_lt now (k / 18446744073709551616) ≡ late_too → (same : Bool) → (k % 18446744073709551616 == i) ≡ same → sum_by (hit i) (due_ids now ks) ≡ (if is_in K ks && nat_le (K / 18446744073709551616) now then 1 else 0) → sum_by (hit i) (if late_too then [] else k % 18446744073709551616 ∷ due_ids now ks) ≡ (if is_in K (k ∷ ks) && nat_le (K / 18446744073709551616) now then 1 else 0)
    by_tests true t same u rest = rw (late t) refl
    by_tests false t true u rest =
        let it : k ≡ K = here (grind (arith, nat_tests)) in
        let none : is_in K ks ≡ false = ap (λ x. is_in x ks) (sym it) ∙ is_in-above k ks (grind arith) in
        let soon : k / 18446744073709551616 ≤ now = grind (arith, nat_tests) in
        sum_by-cons (hit i) (k % 18446744073709551616) (due_ids now ks) ∙ first_hit (k % 18446744073709551616 == i) (is_in K ks) (k == K) (nat_le (K / 18446744073709551616) now) (sum_by (hit i) (due_ids now ks)) u none (grind (arith, nat_tests)) (rw (← it) (grind (arith, nat_tests))) rest
    by_tests false t false u rest =
        let ne : k ≡ K → ⊥ = λ it. (let at : k % 18446744073709551616 ≡ i = ap (λ x. x % 18446744073709551616) it ∙ e in grind (arith, nat_tests)) in
        sum_by-cons (hit i) (k % 18446744073709551616) (due_ids now ks) ∙ no_hit (k % 18446744073709551616 == i) (is_in K ks) (k == K) (nat_le (K / 18446744073709551616) now) (sum_by (hit i) (due_ids now ks)) u (grind (arith, nat_tests, ne)) rest

-- how often an id stands among those that are due
pub due_counts : (i now : ℕ) (stages : ℕ → Stage) (keys : List ℕ) → (is_still (stages i) ≡ false → i < 18446744073709551616) → IsOrder timed_slot stages keys → sum_by (hit i) (due_ids now keys) ≡ (if is_due now (stages i) then 1 else 0)
due_counts i now stages keys small h = by_stage (stages i) refl
  where
    slot : (k : ℕ) → is_in k keys ≡ true → k % 18446744073709551616 ≡ i → (s : Stage) → stages i ≡ s → is_slot (k / 18446744073709551616) (timed_slot s) ≡ true
    slot k a e s is = ap (λ (s : Stage). is_slot (k / 18446744073709551616) (timed_slot s)) (sym is ∙ ap stages (sym e)) ∙ sym (h.are k) ∙ a

    by_stage : (s : Stage) → stages i ≡ s → sum_by (hit i) (due_ids now keys) ≡ (if is_due now s then 1 else 0)
    by_stage Still is = none_due i now keys (λ k a e. let no : false ≡ true = slot k a e Still is in cc)
    by_stage Waiting is = none_due i now keys (λ k a e. let no : false ≡ true = slot k a e Waiting is in cc)
    by_stage Asked is = none_due i now keys (λ k a e. let no : false ≡ true = slot k a e Asked is in cc)
    by_stage (Timed d) is =
        let l : i < 18446744073709551616 = small (ap is_still is) in
        let there : is_in (key_of d i) keys ≡ true = stands timed_slot stages i d keys l (ap timed_slot is) h in
        one_due i now (key_of d i) keys h.rise (id_of_key d i l) (λ k a e. key_is k d i e (let same : (k / 18446744073709551616 == d) ≡ true = slot k a e (Timed d) is in grind (arith, nat_tests)))
        ∙ rw (there, slot_of_key d i l) refl

-- Sorting.

rise_sorted : (xs : List ℕ) → IsNonDecreasingBy (λ x. x) xs → ((i : ℕ) → sum_by (hit i) xs ≤ 1) → rise xs ≡ true
rise_sorted [] up few = refl
rise_sorted (x ∷ xs) up few =
    let once : (i : ℕ) → hit i x + sum_by (hit i) xs ≤ 1 = λ i. omega (arith, few i, sum_by-cons (hit i) x xs) in
    let none : is_in x xs ≡ false = counted x xs ∙ only (sum_by (hit x) xs) (x == x) (grind (arith, nat_tests)) (once x) in
    let above : list_all (λ y. nat_lt x y) xs ≡ true = all_of_get (λ y. nat_lt x y) xs (λ j l. higher x (get_or xs j 0) (up zero (suc j) 0 (omega arith) (omega (arith, l))) (λ e. let there : is_in x xs ≡ true = is_in-at xs j x l e in (let no : false ≡ true = sym none ∙ there in cc))) in
    let rest : rise xs ≡ true = rise_sorted xs (λ i j d le l. up (suc i) (suc j) d (omega (arith, le)) (omega (arith, l))) (λ i. omega (arith, once i)) in
    grind arith
  where
    only : (n : ℕ) (b : Bool) → b ≡ true → (if b then 1 else 0) + n ≤ 1 → nat_lt 0 n ≡ false
    only n b e l = grind (arith, nat_tests)

    higher : (x y : ℕ) → x ≤ y → (y ≡ x → ⊥) → nat_lt x y ≡ true
    higher x y le ne = grind (arith, nat_tests, ne)

pub due_sorted : (now : ℕ) (entries : List (ℕ × Stage)) (keys ids sorted : List ℕ) → are_small entries ≡ true → IsOrder timed_slot (stage_at entries) keys → ids ≡ due_ids now keys → IsPermutation ids sorted → IsSorted nat_cmp sorted → AreDue entries now sorted
due_sorted now entries keys ids sorted small h is same up = record {
  rise = rise_sorted sorted (IsNonDecreasingBy-from_sort (λ x. x) sorted up) (λ i. few (is_due now (stage_at entries i)) (sum_by (hit i) sorted) (counts i));
  due = λ i. counted i sorted ∙ ap (λ n. nat_lt 0 n) (counts i) ∙ some (is_due now (stage_at entries i));
}
  where
    counts : (i : ℕ) → sum_by (hit i) sorted ≡ (if is_due now (stage_at entries i) then 1 else 0)
    counts i = sum_by-IsPermutation (hit i) ids sorted same ∙ ap (λ (xs : List ℕ). sum_by (hit i) xs) is ∙ due_counts i now (stage_at entries) keys (small_id entries i small) h

    few : (b : Bool) (n : ℕ) → n ≡ (if b then 1 else 0) → n ≤ 1
    few true n e = omega (arith, e)
    few false n e = omega (arith, e)

    some : (b : Bool) → nat_lt 0 (if b then 1 else 0) ≡ b
    some true = refl
    some false = refl

-- The first keys.

-- where the first key is not yet due, none is
pub none_yet : (now k : ℕ) (entries : List (ℕ × Stage)) (ks : List ℕ) → are_small entries ≡ true → IsOrder timed_slot (stage_at entries) (k ∷ ks) → now < k / 18446744073709551616 → (id : ℕ) → is_due now (stage_at entries id) ≡ false
none_yet now k entries ks small h late id = by_stage (stage_at entries id) refl
  where
    by_stage : (s : Stage) → stage_at entries id ≡ s → is_due now s ≡ false
    by_stage Still is = refl
    by_stage Waiting is = refl
    by_stage Asked is = refl
    by_stage (Timed d) is =
        let l : id < 18446744073709551616 = small_id entries id small (ap is_still is) in
        let there : is_in (key_of d id) (k ∷ ks) ≡ true = stands timed_slot (stage_at entries) id d (k ∷ ks) l (ap timed_slot is) h in
        let first : k / 18446744073709551616 ≤ d = rw (slot_of_key d id l) at (slots_climb k (key_of d id) (first_is_least k (key_of d id) ks h.rise there)) in
        grind (arith, nat_tests)

pub none_timed : (now : ℕ) (entries : List (ℕ × Stage)) → are_small entries ≡ true → IsOrder timed_slot (stage_at entries) [] → (id : ℕ) → is_due now (stage_at entries id) ≡ false
none_timed now entries small h id = by_stage (stage_at entries id) refl
  where
    by_stage : (s : Stage) → stage_at entries id ≡ s → is_due now s ≡ false
    by_stage Still is = refl
    by_stage Waiting is = refl
    by_stage Asked is = refl
    by_stage (Timed d) is =
        let l : id < 18446744073709551616 = small_id entries id small (ap is_still is) in
        let no : false ≡ true = stands timed_slot (stage_at entries) id d [] l (ap timed_slot is) h in cc

-- where the first key is due, its id is
pub first_due : (now k : ℕ) (entries : List (ℕ × Stage)) (ks : List ℕ) → IsOrder timed_slot (stage_at entries) (k ∷ ks) → k / 18446744073709551616 ≤ now → is_due now (stage_at entries (k % 18446744073709551616)) ≡ true
first_due now k entries ks h soon = by_stage (stage_at entries (k % 18446744073709551616)) (sym (h.are k) ∙ grind (arith, nat_tests))
  where
    by_stage : (s : Stage) → is_slot (k / 18446744073709551616) (timed_slot s) ≡ true → is_due now s ≡ true
    by_stage Still is = is
    by_stage Waiting is = is
    by_stage Asked is = is
    by_stage (Timed d) is = grind (arith, nat_tests)

zero_key : (id : ℕ) → key_of 0 id ≡ id
zero_key id = omega arith

waits : (s : Stage) → is_waiting s ≡ true → doubted_slot s ≡ Some 0
waits Still e = cc
waits (Timed d) e = cc
waits Waiting e = refl
waits Asked e = cc

waits_there : (id : ℕ) (entries : List (ℕ × Stage)) (keys : List ℕ) → are_small entries ≡ true → IsOrder doubted_slot (stage_at entries) keys → is_waiting (stage_at entries id) ≡ true → is_in id keys ≡ true
waits_there id entries keys small h e =
    ap (λ (n : ℕ). is_in n keys) (sym (zero_key id)) ∙ stands doubted_slot (stage_at entries) id 0 keys (small_id entries id small (still (stage_at entries id) e)) (waits (stage_at entries id) e) h
  where
    still : (s : Stage) → is_waiting s ≡ true → is_still s ≡ false
    still Still e = cc
    still (Timed d) e = refl
    still Waiting e = refl
    still Asked e = refl

pub first_waits : (k : ℕ) (entries : List (ℕ × Stage)) (ks : List ℕ) → are_small entries ≡ true → IsOrder doubted_slot (stage_at entries) (k ∷ ks) → k < 18446744073709551616 → IsNextAsk entries (Some k)
first_waits k entries ks small h l = (by_stage (stage_at entries k) its, λ other e. first_is_least k other ks h.rise (waits_there other entries (k ∷ ks) small h e))
  where
    its : is_slot 0 (doubted_slot (stage_at entries k)) ≡ true
    its =
        let slot : k / 18446744073709551616 ≡ 0 = ap (λ (n : ℕ). n / 18446744073709551616) (sym (zero_key k)) ∙ slot_of_key 0 k l in
        let id : k % 18446744073709551616 ≡ k = ap (λ (n : ℕ). n % 18446744073709551616) (sym (zero_key k)) ∙ id_of_key 0 k l in
        ap (λ (n : ℕ). is_slot n (doubted_slot (stage_at entries k))) (sym slot)
        ∙ ap (λ (n : ℕ). is_slot (k / 18446744073709551616) (doubted_slot (stage_at entries n))) (sym id)
        ∙ sym (h.are k) ∙ grind (arith, nat_tests)

    by_stage : (s : Stage) → is_slot 0 (doubted_slot s) ≡ true → is_waiting s ≡ true
    by_stage Still is = is
    by_stage (Timed d) is = is
    by_stage Waiting is = refl
    by_stage Asked is = is

none_waits : (id : ℕ) (entries : List (ℕ × Stage)) → (is_waiting (stage_at entries id) ≡ true → ⊥) → is_waiting (stage_at entries id) ≡ false
none_waits id entries never = by_test (is_waiting (stage_at entries id)) never
  where
    by_test : (b : Bool) → (b ≡ true → ⊥) → b ≡ false
    by_test true f = absurd (f refl)
    by_test false f = refl

pub first_is_asked : (k : ℕ) (entries : List (ℕ × Stage)) (ks : List ℕ) → are_small entries ≡ true → IsOrder doubted_slot (stage_at entries) (k ∷ ks) → 18446744073709551616 ≤ k → IsNextAsk entries None
first_is_asked k entries ks small h l id = none_waits id entries (λ e.
    (let low : k ≤ id = first_is_least k id ks h.rise (waits_there id entries (k ∷ ks) small h e) in
    let small_one : id < 18446744073709551616 = small_id entries id small (still (stage_at entries id) e) in
    omega arith))
  where
    still : (s : Stage) → is_waiting s ≡ true → is_still s ≡ false
    still Still e = cc
    still (Timed d) e = refl
    still Waiting e = refl
    still Asked e = refl

pub none_doubted : (entries : List (ℕ × Stage)) → are_small entries ≡ true → IsOrder doubted_slot (stage_at entries) [] → IsNextAsk entries None
none_doubted entries small h id = none_waits id entries (λ e. (let no : false ≡ true = waits_there id entries [] small h e in cc))

-- What `front` shows.

on_true : {P : Type 0} (b : Bool) → (b ≡ true → P) → OnTrue b P
on_true true f = f refl
on_true false f = tt

on_false : {P : Type 0} (b : Bool) → (b ≡ false → P) → OnFalse b P
on_false true f = tt
on_false false f = f refl

pub front_due : (now k : ℕ) (entries : List (ℕ × Stage)) (keys : List ℕ) → IsOrder timed_slot (stage_at entries) keys → 0 < length keys → k ≡ get_or keys 0 k → OnTrue (leb (k / 18446744073709551616) now) ((id : ℕ) × (is_due now (stage_at entries id) ≡ true))
front_due now k entries [] h l at = absurd (omega (arith, l))
front_due now k entries (x ∷ ks) h l at = on_true {P = (id : ℕ) × (is_due now (stage_at entries id) ≡ true)} _ (λ e. (x % 18446744073709551616, first_due now x entries ks h (let soon : k / 18446744073709551616 ≤ now = grind (arith, nat_tests) in subst (λ (n : ℕ). n / 18446744073709551616 ≤ now) at soon)))

pub front_not_due : (now k : ℕ) (entries : List (ℕ × Stage)) (keys : List ℕ) → are_small entries ≡ true → IsOrder timed_slot (stage_at entries) keys → 0 < length keys → k ≡ get_or keys 0 k → OnFalse (leb (k / 18446744073709551616) now) ((id : ℕ) → is_due now (stage_at entries id) ≡ false)
front_not_due now k entries [] small h l at = absurd (omega (arith, l))
front_not_due now k entries (x ∷ ks) small h l at = on_false _ (λ e. none_yet now x entries ks small h (let late : now < k / 18446744073709551616 = grind (arith, nat_tests) in subst (λ (n : ℕ). now < n / 18446744073709551616) at late))

pub no_front_due : (now : ℕ) (entries : List (ℕ × Stage)) (keys : List ℕ) → are_small entries ≡ true → IsOrder timed_slot (stage_at entries) keys → (0 < length keys → ⊥) → (id : ℕ) → is_due now (stage_at entries id) ≡ false
no_front_due now entries [] small h l = none_timed now entries small h
no_front_due now entries (x ∷ ks) small h l = absurd (l (omega arith))

pub front_waits : (k : ℕ) (entries : List (ℕ × Stage)) (keys : List ℕ) → are_small entries ≡ true → IsOrder doubted_slot (stage_at entries) keys → 0 < length keys → k ≡ get_or keys 0 k → k < 18446744073709551616 → IsNextAsk entries (Some k)
front_waits k entries [] small h l at low = absurd (omega (arith, l))
front_waits k entries (x ∷ ks) small h l at low = subst (λ (n : ℕ). IsNextAsk entries (Some n)) (sym at) (first_waits x entries ks small h (subst (λ (n : ℕ). n < 18446744073709551616) at low))

pub front_is_asked : (k : ℕ) (entries : List (ℕ × Stage)) (keys : List ℕ) → are_small entries ≡ true → IsOrder doubted_slot (stage_at entries) keys → 0 < length keys → k ≡ get_or keys 0 k → 18446744073709551616 ≤ k → IsNextAsk entries None
front_is_asked k entries [] small h l at high = absurd (omega (arith, l))
front_is_asked k entries (x ∷ ks) small h l at high = first_is_asked x entries ks small h (subst (λ (n : ℕ). 18446744073709551616 ≤ n) at high)

pub no_front_asked : (entries : List (ℕ × Stage)) (keys : List ℕ) → are_small entries ≡ true → IsOrder doubted_slot (stage_at entries) keys → (0 < length keys → ⊥) → IsNextAsk entries None
no_front_asked entries [] small h l = none_doubted entries small h
no_front_asked entries (x ∷ ks) small h l = absurd (l (omega arith))

-- All that have a deadline.

id_there : (i K : ℕ) (keys : List ℕ) → K % 18446744073709551616 ≡ i → is_in K keys ≡ true → is_in i (ids_of keys) ≡ true
id_there i K [] e h = h
id_there i K (k ∷ ks) e h = by_test (k == K) refl (id_there i K ks e)
  where
    by_test : (b : Bool) → (k == K) ≡ b → (is_in K ks ≡ true → is_in i (ids_of ks) ≡ true) → is_in i (k % 18446744073709551616 ∷ ids_of ks) ≡ true
    by_test true same again =
        let it : k ≡ K = grind (arith, nat_tests) in
        let at : k % 18446744073709551616 ≡ i = ap (λ x. x % 18446744073709551616) it ∙ e in
        grind (arith, nat_tests)
    by_test false other again =
        let later : is_in i (ids_of ks) ≡ true = again (grind (arith, nat_tests)) in
        grind (arith, nat_tests)

id_not_there : (i : ℕ) (keys : List ℕ) → ((k : ℕ) → is_in k keys ≡ true → k % 18446744073709551616 ≡ i → ⊥) → is_in i (ids_of keys) ≡ false
id_not_there i [] h = refl
id_not_there i (k ∷ ks) h =
    let apart : k % 18446744073709551616 ≡ i → ⊥ = h k (grind (arith, nat_tests)) in
    grind (arith, nat_tests, apart, id_not_there i ks (λ j a. h j (grind (arith, nat_tests, a))))

pub are_timed : (entries : List (ℕ × Stage)) (keys : List ℕ) → are_small entries ≡ true → IsOrder timed_slot (stage_at entries) keys → AreTimed entries (ids_of keys)
are_timed entries keys small h i = by_stage (stage_at entries i) refl
  where
    slot : (k : ℕ) → is_in k keys ≡ true → k % 18446744073709551616 ≡ i → (s : Stage) → stage_at entries i ≡ s → is_slot (k / 18446744073709551616) (timed_slot s) ≡ true
    slot k a e s is = ap (λ (s : Stage). is_slot (k / 18446744073709551616) (timed_slot s)) (sym is ∙ ap (stage_at entries) (sym e)) ∙ sym (h.are k) ∙ a

    by_stage : (s : Stage) → stage_at entries i ≡ s → is_in i (ids_of keys) ≡ is_timed s
    by_stage Still is = id_not_there i keys (λ k a e. let no : false ≡ true = slot k a e Still is in cc)
    by_stage Waiting is = id_not_there i keys (λ k a e. let no : false ≡ true = slot k a e Waiting is in cc)
    by_stage Asked is = id_not_there i keys (λ k a e. let no : false ≡ true = slot k a e Asked is in cc)
    by_stage (Timed d) is =
        let l : i < 18446744073709551616 = small_id entries i small (ap is_still is) in
        id_there i (key_of d i) keys (id_of_key d i l) (stands timed_slot (stage_at entries) i d keys l (ap timed_slot is) h)
