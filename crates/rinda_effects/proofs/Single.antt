-- Where at most one row is due, aging changes it alone.
use Rattle.std.proofs.Common.{◌≡◌, ◌≢◌, ℕ, zero, suc, ◌≤◌, ◌<◌, Bool, true, false, cond, not, ◌&&◌, ◌||◌, List, [], ◌∷◌, length, Option, Some, None, refl, sym, ◌∙◌, ap, subst, arith}
use Rattle.std.specs.Prelude.{◌==◌, is_none, nat_lt, nat_le, filter}
use Rattle.std.specs.List.{list_all}
use Rattle.std.proofs.lemmas.Bool.Decides.{nat_tests}
use Rattle.rinda_rules.specs.declared.object.Last.TheVariants as last
use Rattle.rinda_rules.specs.declared.out.Out.TheVariants as out
use Rattle.rinda_rules.specs.declared.event.Event.{Event}
use Rattle.rinda_rules.specs.declared.row.RequestState.TheVariants as state
use Rattle.rinda_rules.specs.declared.plain.Entry.{Entry}
use Rattle.rinda_rules.specs.declared.plain.Request.{Request}
use Rattle.rinda_rules.specs.declared.plain.Notifier.{Notifier}
use Rattle.rinda_rules.specs.declared.plain.Ended.{Ended}
use Rattle.rinda_rules.specs.Rows.{row_of, changed, rising}
use Rattle.rinda_rules.specs.Space.{Plain, Found, TheTuple, TheRequest, TheNotifier, HasEnded, IsRecycled, IsUnknown, found, found_among, tuple_at, request_at, notifier_at, ended_at, is_free, is_over, is_due_tuple, is_due_request, is_due_notifier}
use Rattle.rinda_rules.specs.Phases.{advanced, aged, aged_below, age_found, doubt_tuple, doubt_request, doubt_notifier, close_after, tuple_ended, in_state, request_in, with_tuple, with_request, with_notifier, nothing_due}
use Rattle.rinda_rules.specs.Cases.{outcome}
use Rattle.rinda_rules.specs.Sound.{Sound, Numbered, named, objects}
use Rattle.rinda_rules.proofs.Lists.{all_at, row_has_id, all_filter_imp, all_changed_other, all_without_row}
use Rattle.rinda_rules.proofs.Finding.{found-tuple, found-request, found-notifier}
use Rattle.rinda_effects.specs.Unserved.{unserved}
use Rattle.rinda_effects.specs.Dues.{due_only, due_after}
use Rattle.rinda_effects.proofs.Pairs.{all_others}
use Rattle.rinda_effects.proofs.Cases.{rising_tuples, rising_requests}
use Rattle.rinda_effects.proofs.Aged.{not_aged, none_ages, nothing_ages}
use Rattle.rinda_effects.proofs.Overdue.{NotDue, OneDue, case_leaves_one_due}

front : (a b : Bool) → (a && b) ≡ true → a ≡ true
front a b e = grind arith

back : (a b : Bool) → (a && b) ≡ true → b ≡ true
back a b e = grind arith

both : (a b : Bool) → a ≡ true → b ≡ true → (a && b) ≡ true
both a b e f = grind arith

some_same : {X : Type 0} {x y : X} → Some x ≡ Some y → x ≡ y
some_same e = cc

-- Ids.

named_some : {R : Type 0} (key : R → ℕ) (id : ℕ) (xs : List R) (r : R) → row_of key id xs ≡ Some r → 1 ≤ named key id xs
named_some key id [] r e = cc
named_some key id (x ∷ xs) r e = grind (arith, nat_tests, named_some key id xs r)

named_none : {R : Type 0} (key : R → ℕ) (id : ℕ) (xs : List R) → named key id xs ≡ 0 → row_of key id xs ≡ None
named_none key id [] e = refl
named_none key id (x ∷ xs) e = grind (arith, nat_tests, named_none key id xs)

-- a row whose id is another one
other : (a id : ℕ) (q : Bool) → a ≢ id → (a == id || q) ≡ true → q ≡ true
other a id q ne e = grind (arith, nat_tests)

other_row : {R : Type 0} (key : R → ℕ) (id k : ℕ) (q : R → Bool) (xs : List R) (r : R) → k ≢ id → row_of key k xs ≡ Some r → list_all (λ x. key x == id || not (q x)) xs ≡ true → not (q r) ≡ true
other_row key id k q xs r ne there e = other (key r) id (not (q r)) (subst (λ (i : ℕ). i ≢ id) (sym (row_has_id key k xs r there)) ne) (all_at (λ x. key x == id || not (q x)) key k xs r there e)

-- The other rows don't age.
other_ages : (s : Plain) (id k : ℕ) (f : Found) → k ≢ id → found s k ≡ f → due_only (Some id) s ≡ true → age_found s f ≡ s
other_ages s id k (TheTuple t) ne is e = not_aged (is_due_tuple s.clock t) _ s (other_row (λ t. t.id) id k (is_due_tuple s.clock) s.tuples t ne (found-tuple s k t is) (front _ _ e))
other_ages s id k (TheRequest r) ne is e = not_aged (is_due_request s.clock r) _ s (other_row (λ r. r.id) id k (is_due_request s.clock) s.requests r ne (found-request s k r is) (front _ _ (back _ _ e)))
other_ages s id k (TheNotifier n) ne is e = not_aged (is_due_notifier s.clock n) _ s (other_row (λ n. n.id) id k (is_due_notifier s.clock) s.notifiers n ne (found-notifier s k n is) (back _ _ (back _ _ e)))
other_ages s id k (HasEnded kd l) ne is e = refl
other_ages s id k IsRecycled ne is e = refl
other_ages s id k IsUnknown ne is e = refl

-- Once the one has aged, nothing is due.

module _ {R : Type 0} (key : R → ℕ) (id : ℕ) (q : R → Bool) (xs : List R) (e : list_all (λ x. key x == id || not (q x)) xs ≡ true) where
  pub none_there : row_of key id xs ≡ None → list_all (λ x. not (q x)) xs ≡ true
  none_there none = all_without_row (λ x. key x == id || not (q x)) (λ x. not (q x)) key id xs none (λ x ne h. other (key x) id (not (q x)) ne h) e

  pub not_it : rising key xs ≡ true → (r : R) → row_of key id xs ≡ Some r → not (q r) ≡ true → list_all (λ x. not (q x)) xs ≡ true
  not_it up r there n = all_others (λ x. key x == id || not (q x)) (λ x. not (q x)) key id xs up (λ x at _. subst (λ (y : R). not (q y) ≡ true) (some_same (sym there ∙ at)) n) (λ x ne h. other (key x) id (not (q x)) ne h) e

  pub it_changes : rising key xs ≡ true → (f : R → R) (r : R) → row_of key id xs ≡ Some r → not (q (f r)) ≡ true → list_all (λ x. not (q x)) (changed key id f xs) ≡ true
  it_changes up f r there n = all_changed_other (λ x. key x == id || not (q x)) (λ x. not (q x)) key id f xs r up there n (λ x ne h. other (key x) id (not (q x)) ne h) e

  pub it_leaves : list_all (λ x. not (q x)) (filter (λ x. not (key x == id)) xs) ≡ true
  it_leaves = all_filter_imp (λ x. key x == id || not (q x)) (λ x. not (q x)) (λ x. not (key x == id)) (λ x a h. left (key x == id) (not (q x)) a h) xs e
    where
      left : (a q : Bool) → not a ≡ true → (a || q) ≡ true → q ≡ true
      left a q n h = grind arith

rising_notifiers : (s : Plain) → Numbered s → rising (λ n. n.id) s.notifiers ≡ true
rising_notifiers s h = front _ _ h.notifiers

-- the lists of the other kinds have nobody with that id
record Alone (s : Plain) (id : ℕ) : Type 0 where
  tuple : (t : Entry) → tuple_at s id ≡ Some t → (request_at s id ≡ None) × (notifier_at s id ≡ None)
  request : (r : Request) → request_at s id ≡ Some r → (tuple_at s id ≡ None) × (notifier_at s id ≡ None)
  notifier : (n : Notifier) → notifier_at s id ≡ Some n → (tuple_at s id ≡ None) × (request_at s id ≡ None)

alone : (s : Plain) (id : ℕ) → Sound s → Alone s id
alone s id sound = let one = sound.apart.once id in record {
  tuple = λ t e. let some = named_some (λ t. t.id) id s.tuples t e in (named_none (λ r. r.id) id s.requests (omega arith), named_none (λ n. n.id) id s.notifiers (omega arith));
  request = λ r e. let some = named_some (λ r. r.id) id s.requests r e in (named_none (λ t. t.id) id s.tuples (omega arith), named_none (λ n. n.id) id s.notifiers (omega arith));
  notifier = λ n e. let some = named_some (λ n. n.id) id s.notifiers n e in (named_none (λ t. t.id) id s.tuples (omega arith), named_none (λ r. r.id) id s.requests (omega arith));
}

doubt_is_not_due : (a o : Bool) → not (a && (false && o)) ≡ true
doubt_is_not_due a o = grind arith

doubt_request_not_due : (p o : Bool) → not ((p && false) && o) ≡ true
doubt_request_not_due p o = grind arith

one_of : (one : Option ℕ) (s : Plain) → due_only one s ≡ true → OneDue one s
one_of one s e = record { tuples = front _ _ e; requests = front _ _ (back _ _ e); notifiers = back _ _ (back _ _ e) }

tuple_aged : (s : Plain) (id : ℕ) (t : Entry) → Sound s → tuple_at s id ≡ Some t → OneDue (Some id) s → NotDue (age_found s (TheTuple t))
tuple_aged s id t sound there h = by_tests (is_due_tuple s.clock t) (is_none t.renewer) refl
  where
    tuples_one : list_all (λ t. t.id == id || not (is_due_tuple s.clock t)) s.tuples ≡ true
    tuples_one = h.tuples

    rs : list_all (λ r. not (is_due_request s.clock r)) s.requests ≡ true
    rs = none_there (λ r. r.id) id (is_due_request s.clock) s.requests h.requests ((alone s id sound).tuple t there).0

    ns : list_all (λ n. not (is_due_notifier s.clock n)) s.notifiers ≡ true
    ns = none_there (λ n. n.id) id (is_due_notifier s.clock) s.notifiers h.notifiers ((alone s id sound).tuple t there).1

    same : t.id ≡ id
    same = row_has_id (λ t. t.id) id s.tuples t there

    by_tests : (b c : Bool) → is_due_tuple s.clock t ≡ b → NotDue (cond {A = Plain} b (cond {A = Plain} c (tuple_ended last.Expired t s) (with_tuple t.id doubt_tuple s)) s)
    by_tests true true is = record { tuples = subst (λ (i : ℕ). list_all (λ t. not (is_due_tuple s.clock t)) (filter (λ x. not (x.id == i)) s.tuples) ≡ true) (sym same) (it_leaves (λ t. t.id) id (is_due_tuple s.clock) s.tuples tuples_one); requests = rs; notifiers = ns }
    by_tests true false is = record { tuples = subst (λ (i : ℕ). list_all (λ t. not (is_due_tuple s.clock t)) (changed (λ t. t.id) i doubt_tuple s.tuples) ≡ true) (sym same) (it_changes (λ t. t.id) id (is_due_tuple s.clock) s.tuples tuples_one (rising_tuples s sound.numbered) doubt_tuple t there (doubt_is_not_due (is_free t) (is_over s.clock t.deadline))); requests = rs; notifiers = ns }
    by_tests false c is = record { tuples = not_it (λ t. t.id) id (is_due_tuple s.clock) s.tuples tuples_one (rising_tuples s sound.numbered) t there (ap not is); requests = rs; notifiers = ns }

request_aged : (s : Plain) (id : ℕ) (r : Request) → Sound s → request_at s id ≡ Some r → OneDue (Some id) s → NotDue (age_found s (TheRequest r))
request_aged s id r sound there h = by_tests (is_due_request s.clock r) (is_none r.renewer) refl
  where
    requests_one : list_all (λ r. r.id == id || not (is_due_request s.clock r)) s.requests ≡ true
    requests_one = h.requests

    ts : list_all (λ t. not (is_due_tuple s.clock t)) s.tuples ≡ true
    ts = none_there (λ t. t.id) id (is_due_tuple s.clock) s.tuples h.tuples ((alone s id sound).request r there).0

    ns : list_all (λ n. not (is_due_notifier s.clock n)) s.notifiers ≡ true
    ns = none_there (λ n. n.id) id (is_due_notifier s.clock) s.notifiers h.notifiers ((alone s id sound).request r there).1

    same : r.id ≡ id
    same = row_has_id (λ r. r.id) id s.requests r there

    changes : (f : Request → Request) → not (is_due_request s.clock (f r)) ≡ true → list_all (λ r. not (is_due_request s.clock r)) (changed (λ r. r.id) r.id f s.requests) ≡ true
    changes f n = subst (λ (i : ℕ). list_all (λ r. not (is_due_request s.clock r)) (changed (λ r. r.id) i f s.requests) ≡ true) (sym same) (it_changes (λ r. r.id) id (is_due_request s.clock) s.requests requests_one (rising_requests s sound.numbered) f r there n)

    by_tests : (b c : Bool) → is_due_request s.clock r ≡ b → NotDue (cond {A = Plain} b (cond {A = Plain} c (request_in r.id (state.Answered out.Expired) s) (with_request r.id doubt_request s)) s)
    by_tests true true is = record { tuples = ts; requests = changes (in_state (state.Answered out.Expired)) refl; notifiers = ns }
    by_tests true false is = record { tuples = ts; requests = changes doubt_request (doubt_request_not_due _ (is_over s.clock r.deadline)); notifiers = ns }
    by_tests false c is = record { tuples = ts; requests = not_it (λ r. r.id) id (is_due_request s.clock) s.requests requests_one (rising_requests s sound.numbered) r there (ap not is); notifiers = ns }

notifier_aged : (s : Plain) (id : ℕ) (n : Notifier) → Sound s → notifier_at s id ≡ Some n → OneDue (Some id) s → NotDue (age_found s (TheNotifier n))
notifier_aged s id n sound there h = by_tests (is_due_notifier s.clock n) (is_none n.renewer) refl
  where
    notifiers_one : list_all (λ n. n.id == id || not (is_due_notifier s.clock n)) s.notifiers ≡ true
    notifiers_one = h.notifiers

    ts : list_all (λ t. not (is_due_tuple s.clock t)) s.tuples ≡ true
    ts = none_there (λ t. t.id) id (is_due_tuple s.clock) s.tuples h.tuples ((alone s id sound).notifier n there).0

    rs : list_all (λ r. not (is_due_request s.clock r)) s.requests ≡ true
    rs = none_there (λ r. r.id) id (is_due_request s.clock) s.requests h.requests ((alone s id sound).notifier n there).1

    same : n.id ≡ id
    same = row_has_id (λ n. n.id) id s.notifiers n there

    changes : (f : Notifier → Notifier) → not (is_due_notifier s.clock (f n)) ≡ true → list_all (λ n. not (is_due_notifier s.clock n)) (changed (λ n. n.id) n.id f s.notifiers) ≡ true
    changes f k = subst (λ (i : ℕ). list_all (λ n. not (is_due_notifier s.clock n)) (changed (λ n. n.id) i f s.notifiers) ≡ true) (sym same) (it_changes (λ n. n.id) id (is_due_notifier s.clock) s.notifiers notifiers_one (rising_notifiers s sound.numbered) f n there k)

    by_tests : (b c : Bool) → is_due_notifier s.clock n ≡ b → NotDue (cond {A = Plain} b (cond {A = Plain} c (with_notifier n.id (close_after last.Expired (length s.events)) s) (with_notifier n.id doubt_notifier s)) s)
    by_tests true true is = record { tuples = ts; requests = rs; notifiers = changes (close_after last.Expired (length s.events)) refl }
    by_tests true false is = record { tuples = ts; requests = rs; notifiers = changes doubt_notifier (doubt_is_not_due _ (is_over s.clock n.deadline)) }
    by_tests false c is = record { tuples = ts; requests = rs; notifiers = not_it (λ n. n.id) id (is_due_notifier s.clock) s.notifiers notifiers_one (rising_notifiers s sound.numbered) n there (ap not is) }

-- the rows with that id, where it names none
among_none : (s : Plain) (id : ℕ) (r : Option Request) (t : Option Entry) (n : Option Notifier) (e : Option Ended) → r ≡ None → t ≡ None → n ≡ None → age_found s (found_among s id r t n e) ≡ s
among_none s id None None None (Some e) a b c = refl
among_none s id None None None None a b c = by_test (id == 0 || nat_le s.next id)
  where
    by_test : (q : Bool) → age_found s (cond {A = Found} q IsUnknown IsRecycled) ≡ s
    by_test true = refl
    by_test false = refl
among_none s id (Some r) t n e a b c = cc
among_none s id None (Some t) n e a b c = cc
among_none s id None None (Some n) e a b c = cc

none_of_all : (s : Plain) (id : ℕ) → request_at s id ≡ None → tuple_at s id ≡ None → notifier_at s id ≡ None → due_only (Some id) s ≡ true → NotDue s
none_of_all s id r t n e = record {
  tuples = none_there (λ t. t.id) id (is_due_tuple s.clock) s.tuples (front _ _ e) t;
  requests = none_there (λ r. r.id) id (is_due_request s.clock) s.requests (front _ _ (back _ _ e)) r;
  notifiers = none_there (λ n. n.id) id (is_due_notifier s.clock) s.notifiers (back _ _ (back _ _ e)) n;
}

of_not_due : (s : Plain) → NotDue s → nothing_due s ≡ true
of_not_due s h = both _ _ h.tuples (both _ _ h.requests h.notifiers)

module _ (s : Plain) (id : ℕ) (sound : Sound s) (e : due_only (Some id) s ≡ true) where
  -- once what the id names has aged, nothing is due
  once_aged : (r : Option Request) (t : Option Entry) (n : Option Notifier) (d : Option Ended) → request_at s id ≡ r → tuple_at s id ≡ t → notifier_at s id ≡ n → NotDue (age_found s (found_among s id r t n d))
  once_aged (Some r) t n d a b c = request_aged s id r sound a (one_of (Some id) s e)
  once_aged None (Some t) n d a b c = tuple_aged s id t sound b (one_of (Some id) s e)
  once_aged None None (Some n) d a b c = notifier_aged s id n sound c (one_of (Some id) s e)
  once_aged None None None d a b c = subst (λ (p : Plain). NotDue p) (sym (among_none s id None None None d refl refl refl)) (none_of_all s id a b c e)

  one_not_due : nothing_due (age_found s (found s id)) ≡ true
  one_not_due = of_not_due _ (once_aged (request_at s id) (tuple_at s id) (notifier_at s id) (ended_at s id) refl refl refl)

  before : (k : ℕ) → k ≤ id → aged_below k s ≡ s
  before zero le = refl
  before (suc k) le = let ne : k ≢ id = omega arith in ap (λ (p : Plain). age_found p (found p k)) (before k (omega arith)) ∙ other_ages s id k (found s k) ne refl e

  at_least : (a b : ℕ) → nat_lt a b ≡ false → b ≤ a
  at_least a b h = grind (arith, nat_tests)

  less : (a b : ℕ) → nat_lt a b ≡ true → a < b
  less a b h = grind (arith, nat_tests)

  next : (k : ℕ) → id < suc k → (b : Bool) → nat_lt id k ≡ b → (id < k → aged_below k s ≡ age_found s (found s id)) → aged_below (suc k) s ≡ age_found s (found s id)
  next k lt true is rest = ap (λ (p : Plain). age_found p (found p k)) (rest (less id k is)) ∙ none_ages (age_found s (found s id)) k (found (age_found s (found s id)) k) refl one_not_due
  next k lt false is rest = let le : k ≤ id = at_least id k is in let same : k ≡ id = omega arith in ap (λ (p : Plain). age_found p (found p k)) (before k le) ∙ ap (λ (i : ℕ). age_found s (found s i)) same

  from : (k : ℕ) → id < k → aged_below k s ≡ age_found s (found s id)
  from zero lt = absurd (none lt)
    where
      none : id < 0 → ⊥
      none lt = omega arith
  from (suc k) lt = next k lt (nat_lt id k) refl (λ l. from k l)

  unminted : nat_lt id s.next ≡ false → age_found s (found s id) ≡ s
  unminted h =
      let none : objects s id ≡ 0 = sound.apart.minted id (grind (arith, nat_tests)) in
      among_none s id (request_at s id) (tuple_at s id) (notifier_at s id) (ended_at s id)
      (named_none (λ r. r.id) id s.requests (omega arith)) (named_none (λ t. t.id) id s.tuples (omega arith)) (named_none (λ n. n.id) id s.notifiers (omega arith))

  by_next : (b : Bool) → nat_lt id s.next ≡ b → aged_below s.next s ≡ age_found s (found s id)
  by_next true is = from s.next (less id s.next is)
  by_next false is = before s.next (at_least id s.next is) ∙ sym (unminted is)

pub one_ages : (s : Plain) (id : ℕ) → Sound s → due_only (Some id) s ≡ true → aged s ≡ age_found s (found s id)
unfolding aged
one_ages s id sound e = by_next s id sound e (nat_lt id s.next) refl

-- A turn that doesn't age.

none_only : (one : Option ℕ) (s : Plain) → one ≡ None → due_only one s ≡ true → nothing_due s ≡ true
none_only None s is e = e
none_only (Some i) s is e = cc

pub quiet_is_unserved : (s : Plain) (caller at : ℕ) (event : Event) (choice : Option Entry) → nothing_due (advanced s at) ≡ true → due_after (advanced s at) event ≡ None → unserved s caller at event choice ≡ (outcome (advanced s at) caller event choice).after
quiet_is_unserved s caller at event choice e none =
    let p : Plain = (outcome (advanced s at) caller event choice).after in
    ap (λ (s : Plain). aged (outcome s caller event choice).after) (nothing_ages (advanced s at) e)
    ∙ nothing_ages p (none_only (due_after (advanced s at) event) p none (case_leaves_one_due (advanced s at) caller event choice e))
