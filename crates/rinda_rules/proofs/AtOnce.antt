-- Aging row by row leaves the same as aging each list at once.
use Rattle.std.proofs.Common.{◌≡◌, ℕ, zero, suc, ◌+◌, ◌-◌, ◌≤◌, Bool, true, false, cond, not, ◌&&◌, ◌||◌, List, [], ◌∷◌, ◌++◌, map, length, drop, Option, Some, None, refl, sym, ◌∙◌, ap, arith, append_assoc, length-append, length-drop}
use Rattle.std.specs.Prelude.{◌==◌, filter, is_none, nat_le, nat_lt}
use Rattle.std.specs.List.{list_all}
use Rattle.std.proofs.lemmas.Bool.Decides.{nat_tests}
use Rattle.std.proofs.lemmas.List.{drop-append-le, map-append, length-map, drop-drop}
use Rattle.rinda_rules.specs.declared.object.Last.TheVariants as last
use Rattle.rinda_rules.specs.declared.out.Out.TheVariants as out
use Rattle.rinda_rules.specs.declared.row.RequestState.TheVariants as state
use Rattle.rinda_rules.specs.declared.plain.Entry.{Entry}
use Rattle.rinda_rules.specs.declared.plain.Request.{Request}
use Rattle.rinda_rules.specs.declared.plain.Notifier.{Notifier}
use Rattle.rinda_rules.specs.declared.plain.Raised.{Raised}
use Rattle.rinda_rules.specs.declared.plain.Ended.{Ended}
use Rattle.rinda_rules.specs.Rows.{row_of, without, rising, numbered}
use Rattle.rinda_rules.specs.Space.{Plain, Found, found, found_among, IsUnknown, IsRecycled, tuple_at, request_at, notifier_at, ended_at, retained, is_due_tuple, is_due_request, is_due_notifier}
use Rattle.rinda_rules.specs.Phases.{aged, aged_below, age_found, age_tuple, age_request, age_notifier, tuple_ended, with_tuple, with_request, with_notifier, request_in, in_state, doubt_tuple, doubt_request, doubt_notifier, close_after}
use Rattle.rinda_rules.specs.AtOnce.{expires, aged_tuple, aged_request, expire_before, aged_notifier, deleted, expired, aged_at_once}
use Rattle.rinda_rules.specs.Sound.{Sound, Numbered, Apart, named, objects}
use Rattle.rinda_rules.proofs.Lists.{all_filter, row_has_id, rising-map, rising-filter}
use Rattle.rinda_rules.proofs.Below.{changed_below, kept_below, gone_below, changed_as, changed_same, below_next, below_row, below_none, below_zero, below_all, below_id, kept_none, kept_stays, kept_leaves, kept_row, kept_zero, kept_all, without_below, gone_none, gone_stays, gone_leaves, gone_zero, gone_all}

-- Of the last that ended, one more.

last_push : (m : ℕ) (xs : List Ended) (e : Ended) → 1 ≤ m → drop (length (drop (length xs - m) xs ++ e ∷ []) - m) (drop (length xs - m) xs ++ e ∷ []) ≡ drop (length (xs ++ e ∷ []) - m) (xs ++ e ∷ [])
last_push m xs e some =
    let long : length (drop (length xs - m) xs ++ e ∷ []) ≡ length xs - (length xs - m) + 1 = length-append (drop (length xs - m) xs) (e ∷ []) ∙ ap (λ (n : ℕ). n + 1) (length-drop (length xs - m) xs) in
    let all : length (xs ++ e ∷ []) ≡ length xs + 1 = length-append xs (e ∷ []) in
    rw (long, all)
    (drop-append-le (length xs - (length xs - m) + 1 - m) (drop (length xs - m) xs) (e ∷ []) (rw (length-drop (length xs - m) xs) (omega arith))
    ∙ ap (λ (ys : List Ended). ys ++ e ∷ []) (drop-drop (length xs - (length xs - m) + 1 - m) (length xs - m) xs ∙ ap (λ (n : ℕ). drop n xs) (omega arith))
    ∙ sym (drop-append-le (length xs + 1 - m) xs (e ∷ []) (omega arith)))

retained_push : (xs : List Ended) (e : Ended) → retained (retained xs ++ e ∷ []) ≡ retained (xs ++ e ∷ [])
retained_push xs e = last_push 4096 xs e (omega arith)

retained_few : (xs : List Ended) → length xs ≤ 4096 → retained xs ≡ xs
retained_few xs few = rw (none (length xs) 4096 few) refl
  where
    none : (a b : ℕ) → a ≤ b → a - b ≡ 0
    none a b le = omega arith

-- The space with the rows below an id aged.

abbrev aged_to : ℕ → Plain → Plain
aged_to n s = record {
  clock = s.clock;
  next = s.next;
  shut = s.shut;
  tuples = changed_below (λ t. t.id) n (aged_tuple s.clock) (kept_below (λ t. t.id) n (expires s.clock) s.tuples);
  requests = changed_below (λ r. r.id) n (aged_request s.clock) s.requests;
  notifiers = changed_below (λ x. x.id) n (aged_notifier s) s.notifiers;
  events = s.events ++ map deleted (gone_below (λ t. t.id) n (expires s.clock) s.tuples);
  ended = retained (s.ended ++ map expired (gone_below (λ t. t.id) n (expires s.clock) s.tuples));
}

same_space : (a b : Plain) → a.clock ≡ b.clock → a.next ≡ b.next → a.shut ≡ b.shut → a.tuples ≡ b.tuples → a.requests ≡ b.requests → a.notifiers ≡ b.notifiers → a.events ≡ b.events → a.ended ≡ b.ended → a ≡ b
same_space a b c n s t r x e d = λ i. record { clock = c i; next = n i; shut = s i; tuples = t i; requests = r i; notifiers = x i; events = e i; ended = d i }

tuple_id : (now : ℕ) (t : Entry) → (aged_tuple now t).id ≡ t.id
tuple_id now t = grind (arith, nat_tests)

request_id : (now : ℕ) (r : Request) → (aged_request now r).id ≡ r.id
request_id now r = grind (arith, nat_tests)

notifier_id : (s : Plain) (n : Notifier) → (aged_notifier s n).id ≡ n.id
notifier_id s n = grind (arith, nat_tests)

-- A row that is there ages as its list does.

front : (a b : Bool) → (a && b) ≡ true → a ≡ true
front a b e = grind arith

back : (a b : Bool) → (a && b) ≡ true → b ≡ true
back a b e = grind arith

rising_of : {R : Type 0} (key : R → ℕ) (n : ℕ) (xs : List R) → numbered key n xs ≡ true → rising key xs ≡ true
rising_of key n xs e = front _ _ e

below_of : {R : Type 0} (key : R → ℕ) (n : ℕ) (xs : List R) → numbered key n xs ≡ true → list_all (λ x. nat_lt (key x) n) xs ≡ true
below_of key n xs e = back _ _ e

request_step : (q : Plain) (n : ℕ) (r : Request) → rising (λ r. r.id) q.requests ≡ true → request_at q n ≡ Some r → (cond {A = Plain} (is_due_request q.clock r) (age_request q r) q) ≡ with_request n (aged_request q.clock) q
request_step q n r up there = by_tests (is_due_request q.clock r) (is_none r.renewer) refl refl
  where
    same : r.id ≡ n
    same = row_has_id (λ (r : Request). r.id) n q.requests r there

    changes : (f : Request → Request) → f r ≡ aged_request q.clock r → with_request n f q ≡ with_request n (aged_request q.clock) q
    changes f e = ap (λ (rs : List Request). record q { requests = rs }) (changed_as (λ (r : Request). r.id) n f (aged_request q.clock) q.requests r up there e)

    by_tests : (a b : Bool) → is_due_request q.clock r ≡ a → is_none r.renewer ≡ b → cond {A = Plain} a (cond {A = Plain} b (request_in r.id (state.Answered out.Expired) q) (with_request r.id doubt_request q)) q ≡ with_request n (aged_request q.clock) q
    by_tests true true due alone = rw same (changes (in_state (state.Answered out.Expired)) (rw (due, alone) refl))
    by_tests true false due alone = rw same (changes doubt_request (rw (due, alone) refl))
    by_tests false b due alone = ap (λ (rs : List Request). record q { requests = rs }) (sym (changed_same (λ (r : Request). r.id) n (aged_request q.clock) q.requests r up there (rw due refl)))

tuple_step : (q : Plain) (n : ℕ) (t : Entry) → rising (λ t. t.id) q.tuples ≡ true → tuple_at q n ≡ Some t → expires q.clock t ≡ false → (cond {A = Plain} (is_due_tuple q.clock t) (age_tuple q t) q) ≡ with_tuple n (aged_tuple q.clock) q
tuple_step q n t up there stays = by_tests (is_due_tuple q.clock t) (is_none t.renewer) refl refl
  where
    same : t.id ≡ n
    same = row_has_id (λ (t : Entry). t.id) n q.tuples t there

    by_tests : (a b : Bool) → is_due_tuple q.clock t ≡ a → is_none t.renewer ≡ b → cond {A = Plain} a (cond {A = Plain} b (tuple_ended last.Expired t q) (with_tuple t.id doubt_tuple q)) q ≡ with_tuple n (aged_tuple q.clock) q
    by_tests true true due alone = absurd (both (rw (due, alone) at stays))
      where
        both : true ≡ false → ⊥
        both e = cc
    by_tests true false due alone = rw same (ap (λ (ts : List Entry). record q { tuples = ts }) (changed_as (λ (t : Entry). t.id) n doubt_tuple (aged_tuple q.clock) q.tuples t up there (rw due refl)))
    by_tests false b due alone = ap (λ (ts : List Entry). record q { tuples = ts }) (sym (changed_same (λ (t : Entry). t.id) n (aged_tuple q.clock) q.tuples t up there (rw due refl)))

notifier_step : (s q : Plain) (n : ℕ) (x : Notifier) → length q.events ≡ length s.events + expire_before s.clock n s.tuples → rising (λ x. x.id) q.notifiers ≡ true → notifier_at q n ≡ Some x → (cond {A = Plain} (is_due_notifier s.clock x) (age_notifier q x) q) ≡ with_notifier n (aged_notifier s) q
notifier_step s q n x long up there = by_tests (is_due_notifier s.clock x) (is_none x.renewer) refl refl
  where
    same : x.id ≡ n
    same = row_has_id (λ (x : Notifier). x.id) n q.notifiers x there

    changes : (f : Notifier → Notifier) → f x ≡ aged_notifier s x → with_notifier n f q ≡ with_notifier n (aged_notifier s) q
    changes f e = ap (λ (xs : List Notifier). record q { notifiers = xs }) (changed_as (λ (x : Notifier). x.id) n f (aged_notifier s) q.notifiers x up there e)

    by_tests : (a b : Bool) → is_due_notifier s.clock x ≡ a → is_none x.renewer ≡ b → cond {A = Plain} (is_due_notifier s.clock x) (cond {A = Plain} (is_none x.renewer) (with_notifier x.id (close_after last.Expired (length q.events)) q) (with_notifier x.id doubt_notifier q)) q ≡ with_notifier n (aged_notifier s) q
    by_tests true true due alone = rw (due, alone, same, long) (changes (close_after last.Expired (length s.events + expire_before s.clock n s.tuples)) (rw (due, alone, same) refl))
    by_tests true false due alone = rw (due, alone, same) (changes doubt_notifier (rw (due, alone) refl))
    by_tests false b due alone = rw due (ap (λ (xs : List Notifier). record q { notifiers = xs }) (sym (changed_same (λ (x : Notifier). x.id) n (aged_notifier s) q.notifiers x up there (rw due refl))))

-- One more tuple has left.

events_push : (es : List Raised) (gs more : List Entry) (t : Entry) → gs ++ t ∷ [] ≡ more → (es ++ map deleted gs) ++ deleted t ∷ [] ≡ es ++ map deleted more
events_push es gs more t e = append_assoc es (map deleted gs) (deleted t ∷ []) ∙ ap (λ (xs : List Raised). es ++ xs) (sym (map-append deleted gs (t ∷ [])) ∙ ap (map deleted) e)

ended_push : (es : List Ended) (gs more : List Entry) (t : Entry) → gs ++ t ∷ [] ≡ more → retained (retained (es ++ map expired gs) ++ expired t ∷ []) ≡ retained (es ++ map expired more)
ended_push es gs more t e =
    retained_push (es ++ map expired gs) (expired t)
    ∙ ap retained (append_assoc es (map expired gs) (expired t ∷ []) ∙ ap (λ (xs : List Ended). es ++ xs) (sym (map-append expired gs (t ∷ [])) ∙ ap (map expired) e))

append_nil : {A : Type 0} (xs : List A) → xs ++ [] ≡ xs
append_nil [] = refl
append_nil (x ∷ xs) = ap (λ (ys : List _). x ∷ ys) (append_nil xs)

-- Ids name one object each.

named_some : {R : Type 0} (key : R → ℕ) (id : ℕ) (xs : List R) (r : R) → row_of key id xs ≡ Some r → 1 ≤ named key id xs
named_some key id [] r e = cc
named_some key id (x ∷ xs) r e = grind (arith, nat_tests, named_some key id xs r)

-- The next id's turn.

module _ (s : Plain) (numbers : Numbered s) (apart : Apart s) where
  tuples_up : rising (λ t. t.id) s.tuples ≡ true
  tuples_up = rising_of (λ (t : Entry). t.id) s.next s.tuples numbers.tuples

  up_to : (n : ℕ) → rising (λ t. t.id) (aged_to n s).tuples ≡ true
  up_to n = rising-map (λ (t : Entry). t.id) _ (kept_below (λ t. t.id) n (expires s.clock) s.tuples) (below_id (λ (t : Entry). t.id) n (aged_tuple s.clock) (tuple_id s.clock)) (rising-filter (λ (t : Entry). t.id) _ s.tuples tuples_up)

  tuple_to : (n : ℕ) → tuple_at (aged_to n s) n ≡ tuple_at s n
  tuple_to n = below_row (λ (t : Entry). t.id) n (aged_tuple s.clock) (kept_below (λ t. t.id) n (expires s.clock) s.tuples) (tuple_id s.clock) ∙ kept_row (λ (t : Entry). t.id) n (expires s.clock) s.tuples

  request_to : (n : ℕ) → request_at (aged_to n s) n ≡ request_at s n
  request_to n = below_row (λ (r : Request). r.id) n (aged_request s.clock) s.requests (request_id s.clock)

  notifier_to : (n : ℕ) → notifier_at (aged_to n s) n ≡ notifier_at s n
  notifier_to n = below_row (λ (x : Notifier). x.id) n (aged_notifier s) s.notifiers (notifier_id s)

  -- rows that have no such id stay as they are
  tuples_none : (n : ℕ) → tuple_at s n ≡ None → (aged_to n s).tuples ≡ (aged_to (suc n) s).tuples
  tuples_none n none =
      below_none (λ (t : Entry). t.id) n (aged_tuple s.clock) (kept_below (λ t. t.id) n (expires s.clock) s.tuples) (kept_row (λ (t : Entry). t.id) n (expires s.clock) s.tuples ∙ none)
      ∙ ap (λ (ts : List Entry). changed_below (λ t. t.id) (suc n) (aged_tuple s.clock) ts) (kept_none (λ (t : Entry). t.id) n (expires s.clock) s.tuples none)

  requests_none : (n : ℕ) → request_at s n ≡ None → (aged_to n s).requests ≡ (aged_to (suc n) s).requests
  requests_none n none = below_none (λ (r : Request). r.id) n (aged_request s.clock) s.requests none

  notifiers_none : (n : ℕ) → notifier_at s n ≡ None → (aged_to n s).notifiers ≡ (aged_to (suc n) s).notifiers
  notifiers_none n none = below_none (λ (x : Notifier). x.id) n (aged_notifier s) s.notifiers none

  -- the space where no more tuples have left
  with_gone : (n : ℕ) (q : Plain) → gone_below (λ t. t.id) n (expires s.clock) s.tuples ≡ gone_below (λ t. t.id) (suc n) (expires s.clock) s.tuples → q.clock ≡ s.clock → q.next ≡ s.next → q.shut ≡ s.shut → q.tuples ≡ (aged_to (suc n) s).tuples → q.requests ≡ (aged_to (suc n) s).requests → q.notifiers ≡ (aged_to (suc n) s).notifiers → q.events ≡ (aged_to n s).events → q.ended ≡ (aged_to n s).ended → q ≡ aged_to (suc n) s
  with_gone n q gone c x h ts rs ns es ds = same_space q (aged_to (suc n) s) c x h ts rs ns
      (es ∙ ap (λ (gs : List Entry). s.events ++ map deleted gs) gone)
      (ds ∙ ap (λ (gs : List Entry). retained (s.ended ++ map expired gs)) gone)

  gone_without : (n : ℕ) → tuple_at s n ≡ None → gone_below (λ t. t.id) n (expires s.clock) s.tuples ≡ gone_below (λ t. t.id) (suc n) (expires s.clock) s.tuples
  gone_without n none = gone_none (λ (t : Entry). t.id) n (expires s.clock) s.tuples none

  tuple_next : (n : ℕ) (t : Entry) (b : Bool) → expires s.clock t ≡ b → tuple_at s n ≡ Some t → request_at s n ≡ None → notifier_at s n ≡ None → cond {A = Plain} (is_due_tuple s.clock t) (age_tuple (aged_to n s) t) (aged_to n s) ≡ aged_to (suc n) s
  tuple_next n t false stays there no_request no_notifier =
      tuple_step (aged_to n s) n t (up_to n) (tuple_to n ∙ there) stays
      ∙ with_gone n (with_tuple n (aged_tuple s.clock) (aged_to n s)) (gone_stays (λ (t : Entry). t.id) n (expires s.clock) s.tuples t tuples_up there stays) refl refl refl
      (below_next (λ (t : Entry). t.id) n (aged_tuple s.clock) (kept_below (λ t. t.id) n (expires s.clock) s.tuples) (tuple_id s.clock)
      ∙ ap (λ (ts : List Entry). changed_below (λ t. t.id) (suc n) (aged_tuple s.clock) ts) (kept_stays (λ (t : Entry). t.id) n (expires s.clock) s.tuples t tuples_up there stays))
      (requests_none n no_request) (notifiers_none n no_notifier) refl refl
  tuple_next n t true goes there no_request no_notifier =
      let same : t.id ≡ n = row_has_id (λ (t : Entry). t.id) n s.tuples t there in
      let gone : gone_below (λ t. t.id) n (expires s.clock) s.tuples ++ t ∷ [] ≡ gone_below (λ t. t.id) (suc n) (expires s.clock) s.tuples = gone_leaves (λ (t : Entry). t.id) n (expires s.clock) s.tuples t tuples_up there goes in
      let due : is_due_tuple s.clock t ≡ true = front _ _ goes in
      let alone : is_none t.renewer ≡ true = back _ _ goes in
      rw (due, alone)
      (same_space (tuple_ended last.Expired t (aged_to n s)) (aged_to (suc n) s) refl refl refl
      (ap (λ (id : ℕ). without (λ t. t.id) id (aged_to n s).tuples) same
      ∙ without_below (λ (t : Entry). t.id) n (aged_tuple s.clock) (kept_below (λ t. t.id) n (expires s.clock) s.tuples) (tuple_id s.clock)
      ∙ ap (λ (ts : List Entry). changed_below (λ t. t.id) (suc n) (aged_tuple s.clock) ts) (kept_leaves (λ (t : Entry). t.id) n (expires s.clock) s.tuples t tuples_up there goes))
      (requests_none n no_request) (notifiers_none n no_notifier)
      (events_push s.events _ _ t gone) (ended_push s.ended _ _ t gone))

  request_next : (n : ℕ) (r : Request) → request_at s n ≡ Some r → tuple_at s n ≡ None → notifier_at s n ≡ None → cond {A = Plain} (is_due_request s.clock r) (age_request (aged_to n s) r) (aged_to n s) ≡ aged_to (suc n) s
  request_next n r there no_tuple no_notifier =
      request_step (aged_to n s) n r (rising-map (λ (r : Request). r.id) _ s.requests (below_id (λ (r : Request). r.id) n (aged_request s.clock) (request_id s.clock)) (rising_of (λ (r : Request). r.id) s.next s.requests numbers.requests)) (request_to n ∙ there)
      ∙ with_gone n (with_request n (aged_request s.clock) (aged_to n s)) (gone_without n no_tuple) refl refl refl (tuples_none n no_tuple)
      (below_next (λ (r : Request). r.id) n (aged_request s.clock) s.requests (request_id s.clock)) (notifiers_none n no_notifier) refl refl

  notifier_next : (n : ℕ) (x : Notifier) → notifier_at s n ≡ Some x → request_at s n ≡ None → tuple_at s n ≡ None → cond {A = Plain} (is_due_notifier s.clock x) (age_notifier (aged_to n s) x) (aged_to n s) ≡ aged_to (suc n) s
  notifier_next n x there no_request no_tuple =
      notifier_step s (aged_to n s) n x (length-append s.events (map deleted (gone_below (λ t. t.id) n (expires s.clock) s.tuples)) ∙ ap (λ (k : ℕ). length s.events + k) (length-map (gone_below (λ t. t.id) n (expires s.clock) s.tuples) deleted))
      (rising-map (λ (x : Notifier). x.id) _ s.notifiers (below_id (λ (x : Notifier). x.id) n (aged_notifier s) (notifier_id s)) (rising_of (λ (x : Notifier). x.id) s.next s.notifiers numbers.notifiers)) (notifier_to n ∙ there)
      ∙ with_gone n (with_notifier n (aged_notifier s) (aged_to n s)) (gone_without n no_tuple) refl refl refl (tuples_none n no_tuple) (requests_none n no_request)
      (below_next (λ (x : Notifier). x.id) n (aged_notifier s) s.notifiers (notifier_id s)) refl refl

  none_next : (n : ℕ) → request_at s n ≡ None → tuple_at s n ≡ None → notifier_at s n ≡ None → aged_to n s ≡ aged_to (suc n) s
  none_next n no_request no_tuple no_notifier = with_gone n (aged_to n s) (gone_without n no_tuple) refl refl refl (tuples_none n no_tuple) (requests_none n no_request) (notifiers_none n no_notifier) refl refl

  found_next : (n : ℕ) (r : Option Request) (t : Option Entry) (x : Option Notifier) (e : Option Ended) → request_at s n ≡ r → tuple_at s n ≡ t → notifier_at s n ≡ x → age_found (aged_to n s) (found_among (aged_to n s) n r t x e) ≡ aged_to (suc n) s
  found_next n (Some r) (Some t) x e ir it ix = absurd (two (named_some (λ (r : Request). r.id) n s.requests r ir) (named_some (λ (t : Entry). t.id) n s.tuples t it) (apart.once n))
    where
      two : 1 ≤ named (λ r. r.id) n s.requests → 1 ≤ named (λ t. t.id) n s.tuples → objects s n ≤ 1 → ⊥
      two p q r = omega arith
  found_next n (Some r) None (Some x) e ir it ix = absurd (two (named_some (λ (r : Request). r.id) n s.requests r ir) (named_some (λ (x : Notifier). x.id) n s.notifiers x ix) (apart.once n))
    where
      two : 1 ≤ named (λ r. r.id) n s.requests → 1 ≤ named (λ x. x.id) n s.notifiers → objects s n ≤ 1 → ⊥
      two p q r = omega arith
  found_next n None (Some t) (Some x) e ir it ix = absurd (two (named_some (λ (t : Entry). t.id) n s.tuples t it) (named_some (λ (x : Notifier). x.id) n s.notifiers x ix) (apart.once n))
    where
      two : 1 ≤ named (λ t. t.id) n s.tuples → 1 ≤ named (λ x. x.id) n s.notifiers → objects s n ≤ 1 → ⊥
      two p q r = omega arith
  found_next n (Some r) None None e ir it ix = request_next n r ir it ix
  found_next n None (Some t) None e ir it ix = tuple_next n t (expires s.clock t) refl it ir ix
  found_next n None None (Some x) e ir it ix = notifier_next n x ix ir it
  found_next n None None None (Some e) ir it ix = none_next n ir it ix
  found_next n None None None None ir it ix = by_test (n == 0 || nat_le s.next n)
    where
      by_test : (b : Bool) → age_found (aged_to n s) (cond {A = Found} b IsUnknown IsRecycled) ≡ aged_to (suc n) s
      by_test true = none_next n ir it ix
      by_test false = none_next n ir it ix

  one_more : (n : ℕ) → age_found (aged_to n s) (found (aged_to n s) n) ≡ aged_to (suc n) s
  one_more n = found_next n (request_at (aged_to n s) n) (tuple_at (aged_to n s) n) (notifier_at (aged_to n s) n) (ended_at (aged_to n s) n) (sym (request_to n)) (sym (tuple_to n)) (sym (notifier_to n))

  below_to : length s.ended ≤ 4096 → (n : ℕ) → aged_below n s ≡ aged_to n s
  below_to few zero = same_space s (aged_to zero s) refl refl refl
      (sym (below_zero (λ (t : Entry). t.id) (aged_tuple s.clock) (kept_below (λ t. t.id) 0 (expires s.clock) s.tuples) ∙ kept_zero (λ (t : Entry). t.id) (expires s.clock) s.tuples))
      (sym (below_zero (λ (r : Request). r.id) (aged_request s.clock) s.requests))
      (sym (below_zero (λ (x : Notifier). x.id) (aged_notifier s) s.notifiers))
      (sym (ap (λ (gs : List Entry). s.events ++ map deleted gs) (gone_zero (λ (t : Entry). t.id) (expires s.clock) s.tuples) ∙ append_nil s.events))
      (sym (ap (λ (gs : List Entry). retained (s.ended ++ map expired gs)) (gone_zero (λ (t : Entry). t.id) (expires s.clock) s.tuples) ∙ ap retained (append_nil s.ended) ∙ retained_few s.ended few))
  below_to few (suc n) = ap (λ (p : Plain). age_found p (found p n)) (below_to few n) ∙ one_more n

  to_all : aged_to s.next s ≡ aged_at_once s
  to_all =
      let below : list_all (λ t. nat_lt t.id s.next) s.tuples ≡ true = below_of (λ (t : Entry). t.id) s.next s.tuples numbers.tuples in
      let gone : gone_below (λ t. t.id) s.next (expires s.clock) s.tuples ≡ filter (expires s.clock) s.tuples = gone_all (λ (t : Entry). t.id) s.next (expires s.clock) s.tuples below in
      same_space (aged_to s.next s) (aged_at_once s) refl refl refl
      (ap (λ (ts : List Entry). changed_below (λ t. t.id) s.next (aged_tuple s.clock) ts) (kept_all (λ (t : Entry). t.id) s.next (expires s.clock) s.tuples below)
      ∙ below_all (λ (t : Entry). t.id) s.next (aged_tuple s.clock) (filter (λ t. not (expires s.clock t)) s.tuples) (all_filter (λ t. nat_lt t.id s.next) (λ t. not (expires s.clock t)) s.tuples below))
      (below_all (λ (r : Request). r.id) s.next (aged_request s.clock) s.requests (below_of (λ (r : Request). r.id) s.next s.requests numbers.requests))
      (below_all (λ (x : Notifier). x.id) s.next (aged_notifier s) s.notifiers (below_of (λ (x : Notifier). x.id) s.next s.notifiers numbers.notifiers))
      (ap (λ (gs : List Entry). s.events ++ map deleted gs) gone)
      (ap (λ (gs : List Entry). retained (s.ended ++ map expired gs)) gone)

-- in a sound space aging row by row and aging each list at once are the same
pub aging_at_once : (s : Plain) → Sound s → aged s ≡ aged_at_once s
unfolding aged
aging_at_once s sound = below_to s sound.numbered sound.apart sound.few s.next ∙ to_all s sound.numbered sound.apart
