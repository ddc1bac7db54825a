-- Aging one due row after another, in rising id, ages each row.
use Rattle.std.proofs.Common.{◌≡◌, ℕ, zero, suc, ◌+◌, ◌-◌, ◌≤◌, ◌<◌, Bool, true, false, List, [], ◌∷◌, ◌++◌, take, length, get_or, Some, None, refl, sym, ap, ◌∙◌, subst, arith}
use Rattle.std.specs.Prelude.{not, ◌||◌, nat_le, nat_lt, if◌then◌else◌}
use Rattle.std.proofs.lemmas.Bool.Decides.{nat_tests}
use Rattle.std.proofs.lemmas.List.{take_more}
use Rattle.rinda_rules.specs.declared.plain.Entry.{Entry}
use Rattle.rinda_rules.specs.declared.plain.Request.{Request}
use Rattle.rinda_rules.specs.declared.plain.Notifier.{Notifier}
use Rattle.rinda_rules.specs.Space.{Plain, Found, TheTuple, TheRequest, TheNotifier, HasEnded, IsRecycled, IsUnknown, found, is_due_tuple, is_due_request, is_due_notifier}
use Rattle.rinda_rules.specs.Rows.{row_of}
use Rattle.rinda_rules.specs.Phases.{aged, aged_below, age_found, age_tuple, age_request, age_notifier}
use Rattle.rinda_rules.proofs.Finding.{found-tuple, found-request, found-notifier}
use Rattle.rinda_rules.proofs.Lists.{all_at, row_has_id}
use Rattle.rinda_audit.specs.Aging.{none_due, NoneDue, NextDue}

-- Fewer ids.

pub none_due_less : {R : Type 0} (key : R → ℕ) (due : R → Bool) (from to less : ℕ) (rows : List R) → less ≤ to → none_due key due from to rows ≡ true → none_due key due from less rows ≡ true
none_due_less key due from to less [] h e = refl
none_due_less key due from to less (x ∷ xs) h e = grind (arith, nat_tests, none_due_less key due from to less xs h)

due_less : (s : Plain) (from to less : ℕ) → less ≤ to → NoneDue s from to → NoneDue s from less
due_less s from to less h n = record {
  tuples = none_due_less _ _ from to less s.tuples h n.tuples;
  requests = none_due_less _ _ from to less s.requests h n.requests;
  notifiers = none_due_less _ _ from to less s.notifiers h n.notifiers;
}

none_due_append : {R : Type 0} (key : R → ℕ) (due : R → Bool) (from to : ℕ) (xs ys : List R) → none_due key due from to xs ≡ true → none_due key due from to ys ≡ true → none_due key due from to (xs ++ ys) ≡ true
none_due_append key due from to [] ys e f = f
none_due_append key due from to (x ∷ xs) ys e f = grind (arith, nat_tests, none_due_append key due from to xs ys)

-- one row more was looked at
pub none_due_step : {R : Type 0} (key : R → ℕ) (due : R → Bool) (from least now : ℕ) (rows : List R) (i : ℕ) (row : R) → i < length rows → row ≡ get_or rows i row → now ≤ least → (not (due row) || (nat_lt (key row) from || nat_le now (key row))) ≡ true → none_due key due from least (take i rows) ≡ true → none_due key due from now (take (i + 1) rows) ≡ true
none_due_step {R = R} key due from least now rows i row h e l here before =
    let last : none_due key due from now (row ∷ []) ≡ true = grind (arith, nat_tests) in
    let first : none_due key due from now (take i rows) ≡ true = none_due_less key due from least now (take i rows) l before in
    let more : take (i + 1) rows ≡ take i rows ++ row ∷ [] = take_more rows i row h ∙ ap (λ (x : R). take i rows ++ x ∷ []) (sym e) in
    rw more (none_due_append key due from now (take i rows) (row ∷ []) first last)

-- A row of such an id is not due, and does not age.

not_due : {R : Type 0} (key : R → ℕ) (due : R → Bool) (from to id : ℕ) (rows : List R) (row : R) → from ≤ id → id < to → row_of key id rows ≡ Some row → none_due key due from to rows ≡ true → due row ≡ false
not_due key due from to id rows row f t there e =
    let at : (not (due row) || (nat_lt (key row) from || nat_le to (key row))) ≡ true = all_at (λ row. not (due row) || (nat_lt (key row) from || nat_le to (key row))) key id rows row there e in
    let same : key row ≡ id = row_has_id key id rows row there in
    grind (arith, nat_tests)

skipped : {A : Type 0} (b : Bool) (x y : A) → b ≡ false → (if b then x else y) ≡ y
skipped b x y e = rw e refl

quiet : (s : Plain) (from to id : ℕ) (f : Found) → NoneDue s from to → from ≤ id → id < to → found s id ≡ f → age_found s f ≡ s
quiet s from to id (TheTuple t) n h k e = skipped (is_due_tuple s.clock t) (age_tuple s t) s (not_due _ _ from to id s.tuples t h k (found-tuple s id t e) n.tuples)
quiet s from to id (TheRequest r) n h k e = skipped (is_due_request s.clock r) (age_request s r) s (not_due _ _ from to id s.requests r h k (found-request s id r e) n.requests)
quiet s from to id (TheNotifier m) n h k e = skipped (is_due_notifier s.clock m) (age_notifier s m) s (not_due _ _ from to id s.notifiers m h k (found-notifier s id m e) n.notifiers)
quiet s from to id (HasEnded kind last) n h k e = refl
quiet s from to id IsRecycled n h k e = refl
quiet s from to id IsUnknown n h k e = refl

-- where no row of the ids between is due, aging up to the first is aging up to the last
pub none_between : (more : ℕ) (start s : Plain) (from : ℕ) → NoneDue s from (more + from) → s ≡ aged_below from start → s ≡ aged_below (more + from) start
none_between zero start s from n e = let none : 0 + from ≡ from = omega arith in rw none e
none_between (suc more) start s from n e =
    let next : suc more + from ≡ suc (more + from) = omega arith in
    let before : s ≡ aged_below (more + from) start = none_between more start s from (due_less s from (suc more + from) (more + from) (omega arith) n) e in
    let here : age_found s (found s (more + from)) ≡ s = quiet s from (suc more + from) (more + from) (found s (more + from)) n (omega arith) (omega arith) refl in
    rw next (sym here ∙ ap (λ (x : Plain). age_found x (found x (more + from))) before)

-- aging keeps the next id
age_next : (s : Plain) (f : Found) → (age_found s f).next ≡ s.next
age_next s (TheTuple t) = grind (arith, nat_tests)
age_next s (TheRequest r) = grind (arith, nat_tests)
age_next s (TheNotifier n) = grind (arith, nat_tests)
age_next s (HasEnded kind last) = refl
age_next s IsRecycled = refl
age_next s IsUnknown = refl

pub none_until : (start s : Plain) (from to : ℕ) → from ≤ to → NoneDue s from to → s ≡ aged_below from start → s ≡ aged_below to start
none_until start s from to h n e =
    let split : (to - from) + from ≡ to = omega arith in
    subst (λ (k : ℕ). s ≡ aged_below k start) split (none_between (to - from) start s from (subst (λ (k : ℕ). NoneDue s from k) (sym split) n) e)

-- the next row that is due has aged
pub one_more : (start s s' : Plain) (from id : ℕ) → NextDue s from (Some id) → s ≡ aged_below from start → s' ≡ age_found s (found s id) → s' ≡ aged_below (id + 1) start
one_more start s s' from id n e f =
    let before : s ≡ aged_below id start = none_until start s from id n.0 n.2 e in
    let next : id + 1 ≡ suc id = omega arith in
    rw next (f ∙ ap (λ (x : Plain). age_found x (found x id)) before)

pub next_stays : (s s' : Plain) (id next : ℕ) → s' ≡ age_found s (found s id) → s.next ≡ next → s'.next ≡ next
next_stays s s' id next f e = ap (λ (x : Plain). x.next) f ∙ age_next s (found s id) ∙ e

-- no row from there on is due
pub all_aged : (start s : Plain) (from : ℕ) → NextDue s from None → s ≡ aged_below from start → s.next ≡ start.next → from ≤ start.next → s ≡ aged start
unfolding aged
all_aged start s from n e next h =
    none_until start s from start.next h (subst (λ (k : ℕ). NoneDue s from k) next n) e

-- the least of three lists' ids, each looked at for less than the one before
pub due_next : (s : Plain) (from clock next t r n : ℕ) (ts : List Entry) (rs : List Request) (ns : List Notifier) → clock ≡ s.clock → next ≡ s.next → ts ≡ s.tuples → rs ≡ s.requests → ns ≡ s.notifiers → from ≤ s.next → t ≤ next → (from ≤ next → from ≤ t) → none_due (λ t. t.id) (is_due_tuple clock) from t ts ≡ true → r ≤ t → (from ≤ t → from ≤ r) → none_due (λ r. r.id) (is_due_request clock) from r rs ≡ true → n ≤ r → (from ≤ r → from ≤ n) → none_due (λ n. n.id) (is_due_notifier clock) from n ns ≡ true → n < next → (from ≤ n) × (n < s.next) × NoneDue s from n
due_next s from clock next t r n ts rs ns clock_is next_is ts_is rs_is ns_is first tn ft te rt fr re nr fn ne less_next =
    let in_all : from ≤ next = omega arith in
    let in_tuples : from ≤ t = ft in_all in
    let in_requests : from ≤ r = fr in_tuples in
    let in_notifiers : from ≤ n = fn in_requests in
    let below : n < s.next = omega arith in
    let no_tuples : none_due (λ t. t.id) (is_due_tuple clock) from n ts ≡ true = none_due_less _ _ from t n ts (omega arith) te in
    let no_requests : none_due (λ r. r.id) (is_due_request clock) from n rs ≡ true = none_due_less _ _ from r n rs nr re in (
      in_notifiers,
      below,
      record {
        tuples = rw (← clock_is, ← ts_is) no_tuples;
        requests = rw (← clock_is, ← rs_is) no_requests;
        notifiers = rw (← clock_is, ← ns_is) ne;
      },
    )
