-- Aging is made of the ways in which a turn changes the space.
use Rattle.std.proofs.Common.{◌≡◌, ℕ, zero, suc, Bool, true, false, cond, not, ◌&&◌, length, Option, Some, None, refl, sym, ◌∙◌, ap, arith}
use Rattle.std.specs.Prelude.{is_none}
use Rattle.rinda_rules.specs.declared.object.Last.TheVariants as last
use Rattle.rinda_rules.specs.declared.event.Event.{Event}
use Rattle.rinda_rules.specs.declared.out.Out.TheVariants as out
use Rattle.rinda_rules.specs.declared.row.RequestState.{RequestState}
use Rattle.rinda_rules.specs.declared.row.RequestState.TheVariants as state
use Rattle.rinda_rules.specs.declared.plain.Entry.{Entry}
use Rattle.rinda_rules.specs.declared.plain.Request.{Request}
use Rattle.rinda_rules.specs.declared.plain.Notifier.{Notifier}
use Rattle.rinda_rules.specs.declared.plain.Hearing.{Hearing}
use Rattle.rinda_rules.specs.declared.plain.Hearing.TheVariants as hearing
use Rattle.rinda_rules.specs.Space.{Plain, Found, TheTuple, TheRequest, TheNotifier, HasEnded, IsRecycled, IsUnknown, found, tuple_at, request_at, notifier_at, is_due_tuple, is_due_request, is_due_notifier, is_parked, is_running}
use Rattle.rinda_rules.specs.Phases.{aged, aged_below, age_found, age_tuple, age_request, age_notifier, tuple_ended, with_tuple, with_request, with_notifier, request_in, doubt_tuple, doubt_request, doubt_notifier, close_after}
use Rattle.rinda_rules.proofs.Finding.{itself-request, itself-tuple, itself-notifier, found-request, found-tuple, found-notifier}
use Rattle.rinda_rules.proofs.Ways.{Ways, may_lease}
use Rattle.rinda_rules.proofs.Becoming.{at_row, becomes_closed, becomes_doubted}

front : (a b : Bool) → (a && b) ≡ true → a ≡ true
front a b e = grind arith

same_some : {A : Type 0} {x y : A} → Some x ≡ Some y → x ≡ y
same_some e = cc

none_of : (o : Option ℕ) → is_none o ≡ true → o ≡ None
none_of None e = refl
none_of (Some n) e = cc

parked_of : (st : RequestState) → is_parked st ≡ true → st ≡ state.Parked
parked_of state.Reserved e = cc
parked_of state.Parked e = refl
parked_of (state.Granted t) e = cc
parked_of (state.Answered o) e = cc

running_of : (st : Hearing) → is_running st ≡ true → st ≡ hearing.Running
running_of hearing.Running e = refl
running_of (hearing.Closed l until) e = cc

may_lease_parked : (r : Request) → is_parked r.state ≡ true → may_lease r ≡ true
may_lease_parked r e = grind arith

module _ (caller : ℕ) (event : Event) (P : Plain → Type 0) (k : Ways caller event P) (expires : (r : Request) (s : Plain) → request_at s r.id ≡ Some r → r.state ≡ state.Parked → P s → P (request_in r.id (state.Answered out.Expired) s)) where
  tuple_ages : (s : Plain) (t : Entry) → tuple_at s t.id ≡ Some t → is_due_tuple s.clock t ≡ true → P s → P (age_tuple s t)
  tuple_ages s t there due h = by_renewer (is_none t.renewer) refl
    where
      by_renewer : (b : Bool) → is_none t.renewer ≡ b → P (cond {A = Plain} b (tuple_ended last.Expired t s) (with_tuple t.id doubt_tuple s))
      by_renewer true e = k.tuple_leaves last.Expired t s there (none_of t.holder (front _ _ due)) h
      by_renewer false e = k.tuple_leases t.id doubt_tuple s (record { id = λ t. refl; value = λ t. refl; holder = λ t. refl; marked = λ t. refl }) (λ x is _. rw (same_some (sym is ∙ there)) (ap not e)) h

  request_ages : (s : Plain) (r : Request) → request_at s r.id ≡ Some r → is_due_request s.clock r ≡ true → P s → P (age_request s r)
  request_ages s r there due h = by_renewer (is_none r.renewer) refl
    where
      by_renewer : (b : Bool) → is_none r.renewer ≡ b → P (cond {A = Plain} b (request_in r.id (state.Answered out.Expired) s) (with_request r.id doubt_request s))
      by_renewer true e = expires r s there (parked_of r.state (front _ _ (front _ _ due))) h
      by_renewer false e = k.request_leases r doubt_request s there (record { id = λ r. refl; caller = λ r. refl; kind = λ r. refl; pattern = λ r. refl; marked = λ r. refl; state = λ r. refl }) (may_lease_parked r (front _ _ (front _ _ due))) (λ _. ap not e) h

  notifier_ages : (s : Plain) (n : Notifier) → notifier_at s n.id ≡ Some n → is_due_notifier s.clock n ≡ true → P s → P (age_notifier s n)
  notifier_ages s n there due h = by_renewer (is_none n.renewer) refl
    where
      by_renewer : (b : Bool) → is_none n.renewer ≡ b → P (cond {A = Plain} b (with_notifier n.id (close_after last.Expired (length s.events)) s) (with_notifier n.id doubt_notifier s))
      by_renewer true e = k.notifier_changes n.id _ s (record { id = λ n. refl; event = λ n. refl; pattern = λ n. refl; since = λ n. refl }) (at_row s n _ there (becomes_closed s n last.Expired (running_of n.state (front _ _ due)))) h
      by_renewer false e = k.notifier_changes n.id doubt_notifier s (record { id = λ n. refl; event = λ n. refl; pattern = λ n. refl; since = λ n. refl }) (at_row s n doubt_notifier there (becomes_doubted s n e)) h

  found_ages : (s : Plain) (id : ℕ) (f : Found) → found s id ≡ f → P s → P (age_found s f)
  found_ages s id (TheTuple t) e h = by_test (is_due_tuple s.clock t) refl
    where
      by_test : (b : Bool) → is_due_tuple s.clock t ≡ b → P (cond {A = Plain} b (age_tuple s t) s)
      by_test true due = tuple_ages s t (itself-tuple s id t (found-tuple s id t e)) due h
      by_test false due = h
  found_ages s id (TheRequest r) e h = by_test (is_due_request s.clock r) refl
    where
      by_test : (b : Bool) → is_due_request s.clock r ≡ b → P (cond {A = Plain} b (age_request s r) s)
      by_test true due = request_ages s r (itself-request s id r (found-request s id r e)) due h
      by_test false due = h
  found_ages s id (TheNotifier n) e h = by_test (is_due_notifier s.clock n) refl
    where
      by_test : (b : Bool) → is_due_notifier s.clock n ≡ b → P (cond {A = Plain} b (age_notifier s n) s)
      by_test true due = notifier_ages s n (itself-notifier s id n (found-notifier s id n e)) due h
      by_test false due = h
  found_ages s id (HasEnded kd l) e h = h
  found_ages s id IsRecycled e h = h
  found_ages s id IsUnknown e h = h

  -- what these keep, aging the rows below any id keeps
  pub below_ages : (id : ℕ) (s : Plain) → P s → P (aged_below id s)
  below_ages zero s h = h
  below_ages (suc id) s h = found_ages (aged_below id s) id (found (aged_below id s) id) refl (below_ages id s h)

  pub ages_by : (s : Plain) → P s → P (aged s)
  unfolding aged
  ages_by s h = below_ages s.next s h
