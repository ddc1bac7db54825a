-- What each way in which a turn changes the space keeps, the case of each event keeps, and so does serving.
use Rattle.std.proofs.Common.{◌≡◌, ◌≢◌, ℕ, ◌+◌, Bool, true, false, cond, ◌&&◌, ◌||◌, List, [], ◌∷◌, Option, Some, None, refl, sym, ◌∙◌, ap, subst, arith}
use Rattle.std.specs.Prelude.{◌==◌, is_none}
use Rattle.std.proofs.lemmas.Bool.Decides.{nat_tests}
use Rattle.drb_tree.specs.declared.Tree.{Tree}
use Rattle.drb_tree.specs.declared.Remote.{Remote}
use Rattle.rinda_tuple.specs.declared.tuple.Tuple.{Tuple}
use Rattle.rinda_tuple.specs.declared.tuple.Template.{Template}
use Rattle.rinda_tuple.specs.declared.lease.Lease.{Lease}
use Rattle.rinda_tuple.specs.Lives.{deadline}
use Rattle.rinda_rules.specs.declared.object.Last.{Last}
use Rattle.rinda_rules.specs.declared.object.Last.TheVariants as last
use Rattle.rinda_rules.specs.declared.event.Kind.{Kind}
use Rattle.rinda_rules.specs.declared.event.Kind.TheVariants as kind
use Rattle.rinda_rules.specs.declared.event.Event.{Event}
use Rattle.rinda_rules.specs.declared.event.Event.TheVariants.{Write, Reserve, Submit, Collect, Settle, Withdraw, Cancel, Renew, Look, Value, ReadAll, Notify, Pop, NextAsk, Asked, Tick, Shut}
use Rattle.rinda_rules.specs.declared.out.Out.{Out}
use Rattle.rinda_rules.specs.declared.out.Out.TheVariants as out
use Rattle.rinda_rules.specs.declared.turn.Pick.{Pick}
use Rattle.rinda_rules.specs.declared.row.RequestState.{RequestState}
use Rattle.rinda_rules.specs.declared.row.RequestState.TheVariants as state
use Rattle.rinda_rules.specs.declared.plain.Entry.{Entry}
use Rattle.rinda_rules.specs.declared.plain.Request.{Request}
use Rattle.rinda_rules.specs.declared.plain.Notifier.{Notifier}
use Rattle.rinda_rules.specs.declared.plain.Hearing.{Hearing}
use Rattle.rinda_rules.specs.declared.plain.Hearing.TheVariants as hearing
use Rattle.rinda_rules.specs.declared.plain.Raised.{Raised}
use Rattle.rinda_rules.specs.Space.{Plain, Found, TheTuple, TheRequest, TheNotifier, HasEnded, IsRecycled, IsUnknown, found, tuple_at, request_at, notifier_at, is_over, renewer_of, is_reserved, is_parked, is_free, is_live, is_read, may_have, has_match}
use Rattle.rinda_tuple.specs.Tuples.{value_of}
use Rattle.rinda_tuple.specs.Matching.{matches}
use Rattle.rinda_rules.specs.Queue.{queue}
use Rattle.rinda_rules.specs.Phases.{with_tuple, with_request, with_notifier, tuple_ended, request_ended, in_state, request_in, served_as, is_match, may_have_row, may_serve_row, served, served_rows, Serve}
use Rattle.rinda_rules.specs.Cases.{Outcome, answers, new_tuple, minted, written, written_over, write, reserve, notify, on_own, submit, submit_unmatched, collect_served, collect, last_of, settle, pop_empty, pop_queue, pop, withdraw_request, withdraw, cancel_tuple, cancel_request, cancel_notifier, cancel, renewed_tuple, renewed_request, renewed_notifier, renew_request, renew_notifier, renew_with, look, value, Asking, askings, least, ask, is_asked, told_tuple, told_request, told_notifier, told, unless_shut, shut_down, shut, outcome}
use Rattle.rinda_rules.specs.Steps.{matched, chooser}
use Rattle.rinda_rules.specs.Own.{is_of}
use Rattle.rinda_rules.proofs.Finding.{itself-notifier, found-notifier, itself-request, itself-tuple, found-request, found-tuple}
use Rattle.rinda_rules.proofs.Lists.{row_has_id, row_changed_here}
use Rattle.rinda_rules.proofs.Ways.{Ways, LeasesTuple, LeasesRequest, KeepsNotifier, Serves, waits, submits, serves, cancels}
use Rattle.rinda_rules.proofs.Becoming.{at_row, becomes_popped, becomes_closed, becomes_leased, becomes_asked, doubts_asked}

-- Words on tests.

front : (a b : Bool) → (a && b) ≡ true → a ≡ true
front a b e = grind arith

back : (a b : Bool) → (a && b) ≡ true → b ≡ true
back a b e = grind arith

or_left : (a b : Bool) → a ≡ true → (a || b) ≡ true
or_left a b e = grind arith

or_right : (a b : Bool) → b ≡ true → (a || b) ≡ true
or_right a b e = grind arith

last_of_four : (a b c d : Bool) → (a && (b && (c || d))) ≡ true → c ≡ false → d ≡ true
last_of_four a b c d e f = grind arith

none_of : (o : Option ℕ) → is_none o ≡ true → o ≡ None
none_of None e = refl
none_of (Some n) e = cc

-- a tuple that a Take or a Move may have is free
may_have-free : (now : ℕ) (r : Request) (t : Entry) → may_have now r t ≡ true → is_read r.kind ≡ false → t.holder ≡ None
may_have-free now r t e k = none_of t.holder (last_of_four (matches r.pattern t.value) (is_live now t) (is_read r.kind) (is_free t) e k)

parked_of : (st : RequestState) → is_parked st ≡ true → st ≡ state.Parked
parked_of state.Reserved e = cc
parked_of state.Parked e = refl
parked_of (state.Granted t) e = cc
parked_of (state.Answered o) e = cc

same_id : (a b : ℕ) → a == b ≡ true → a ≡ b
same_id a b e = grind (arith, nat_tests)

equal_id : (a b : ℕ) → a ≡ b → a == b ≡ true
equal_id a b e = grind (arith, nat_tests)

-- the tuple that a Submit was given, and what it is to the request
abbrev pub Chosen : Plain → Event → Option Entry → Type 0
Chosen s event choice = (t : Entry) → choice ≡ Some t → (tuple_at s t.id ≡ Some t) × ((r : Request) → event ≡ Submit r.id → request_at s r.id ≡ Some r → may_have s.clock r t ≡ true)

leases_tuple : (d : Option ℕ) (renewer : Option Remote) → LeasesTuple (renewed_tuple d renewer)
leases_tuple d renewer = record { id = λ t. refl; value = λ t. refl; holder = λ t. refl; marked = λ t. refl }

leases_request : (d : Option ℕ) (renewer : Option Remote) → LeasesRequest (renewed_request d renewer)
leases_request d renewer = record { id = λ r. refl; caller = λ r. refl; kind = λ r. refl; pattern = λ r. refl; marked = λ r. refl; state = λ r. refl }

leases_notifier : (d : Option ℕ) (renewer : Option Remote) → KeepsNotifier (renewed_notifier d renewer)
leases_notifier d renewer = record { id = λ n. refl; event = λ n. refl; pattern = λ n. refl; since = λ n. refl }

not_granted_reserved : (st : RequestState) → st ≡ state.Reserved → (t : ℕ) → st ≢ state.Granted t
not_granted_reserved st e t g = cc

not_granted_parked : (st : RequestState) → st ≡ state.Parked → (t : ℕ) → st ≢ state.Granted t
not_granted_parked st e t g = cc

not_granted_answered : (st : RequestState) (o : Out) → st ≡ state.Answered o → (t : ℕ) → st ≢ state.Granted t
not_granted_answered st o e t g = cc

module _ (caller : ℕ) (event : Event) (P : Plain → Type 0) (k : Ways caller event P) where
  -- serving

  served_kept : (kd : Kind) (r : Request) (t : Entry) (s : Plain) → r.kind ≡ kd → request_at s r.id ≡ Some r → tuple_at s t.id ≡ Some t → may_have s.clock r t ≡ true → Serves caller event r → P s → P (served_as kd r t s)
  served_kept kind.Read r t s is there here may why h = k.request_answers r (out.Answer (value_of t.value)) s there (serves why (value_of t.value) refl) h
  served_kept kind.Take r t s is there here may why h =
      k.request_answers r (out.Answer (value_of t.value)) (tuple_ended last.Taken t s) there (serves why (value_of t.value) refl)
      (k.tuple_leaves last.Taken t s here (may_have-free s.clock r t may (ap is_read is)) h)
  served_kept kind.Move r t s is there here may why h = k.grants r t s there here (may_have-free s.clock r t may (ap is_read is)) why h

  rows_kept : (s : Plain) (pick : Pick) (r : Option Request) (t : Option Entry) → request_at s pick.request ≡ r → tuple_at s pick.tuple ≡ t → may_serve_row s pick r ≡ true → P s → P (served_rows s r t)
  rows_kept s pick None t re te may h = h
  rows_kept s pick (Some r) None re te may h = h
  rows_kept s pick (Some r) (Some t) re te may h =
      let match : is_match s r pick ≡ true = front _ _ (back _ _ may) in
      let row : may_have_row s r (tuple_at s pick.tuple) ≡ true = back _ _ match in
      served_kept r.kind r t s refl (itself-request s pick.request r re) (itself-tuple s pick.tuple t te)
      (subst (λ (o : Option Entry). may_have_row s r o ≡ true) te row) (waits (parked_of r.state (front _ _ (front _ _ may)))) h

  pub serve_ways : (s : Plain) (picks : List Pick) (s' : Plain) → Serve s picks s' → P s → P s'
  serve_ways s [] s' serve h = subst P (sym serve.1) h
  serve_ways s (pick ∷ picks) s' serve h =
      serve_ways (served s pick) picks s' serve.1 (rows_kept s pick (request_at s pick.request) (tuple_at s pick.tuple) refl refl serve.0 h)

  -- the caller's own request

  on_own_kept : (s : Plain) (id : ℕ) (f : Found) (case : Request → Outcome) → found s id ≡ f → ((r : Request) → request_at s r.id ≡ Some r → r.id ≡ id → r.caller ≡ caller → P (case r).after) → P s → P (on_own s caller case f).after
  on_own_kept s id (TheTuple t) case e each h = h
  on_own_kept s id (TheNotifier n) case e each h = h
  on_own_kept s id (HasEnded kd l) case e each h = h
  on_own_kept s id IsRecycled case e each h = h
  on_own_kept s id IsUnknown case e each h = h
  on_own_kept s id (TheRequest r) case e each h = by_test (r.caller == caller) refl
    where
      there : request_at s id ≡ Some r
      there = found-request s id r e

      by_test : (b : Bool) → r.caller == caller ≡ b → P (cond {A = Outcome} b (case r) (answers s out.WrongKind)).after
      by_test true own = each r (itself-request s id r there) (row_has_id (λ (r : Request). r.id) id s.requests r there) (same_id r.caller caller own)
      by_test false own = h

  unmatched_kept : (s : Plain) (r : Request) → request_at s r.id ≡ Some r → r.state ≡ state.Reserved → r.caller ≡ caller → event ≡ Submit r.id → is_of r.id event ≡ true → P s → P (submit_unmatched s r).after
  unmatched_kept s r there is own e of h = by_tests r.marked (is_over s.clock r.deadline && is_none r.renewer) refl
    where
      by_tests : (a b : Bool) → r.marked ≡ a → P (cond {A = Outcome} a (answers (request_ended last.Canceled r.id s) out.Canceled) (cond {A = Outcome} b (answers (request_ended last.Expired r.id s) out.Expired) (answers (request_in r.id state.Parked s) (out.Parked r.id)))).after
      by_tests true b m = k.request_ends last.Canceled r s there (not_granted_reserved r.state is) own of h
      by_tests false true m = k.request_ends last.Expired r s there (not_granted_reserved r.state is) own of h
      by_tests false false m = k.request_parks r s there is m own e h

  -- a request that was just answered ends
  answered_ends : (l : Last) (r : Request) (o : Out) (s : Plain) → request_at s r.id ≡ Some r → r.caller ≡ caller → is_of r.id event ≡ true → P (request_in r.id (state.Answered o) s) → P (request_ended l r.id (request_in r.id (state.Answered o) s))
  answered_ends l r o s there own of h =
      k.request_ends l (in_state (state.Answered o) r) (request_in r.id (state.Answered o) s)
      (row_changed_here (λ (r : Request). r.id) r.id (in_state (state.Answered o)) s.requests r (λ _. refl) there)
      (not_granted_answered (state.Answered o) o refl) own of h

  matched_kept : (kd : Kind) (s : Plain) (r : Request) (t : Entry) → r.kind ≡ kd → request_at s r.id ≡ Some r → tuple_at s t.id ≡ Some t → may_have s.clock r t ≡ true → r.state ≡ state.Reserved → r.caller ≡ caller → event ≡ Submit r.id → is_of r.id event ≡ true → P s → P (collect_served (served_as kd r t s) r t kd).after
  matched_kept kind.Read s r t is there here may res own e of h =
      answered_ends last.Done r (out.Answer (value_of t.value)) s there own of (served_kept kind.Read r t s is there here may (submits res own e) h)
  matched_kept kind.Take s r t is there here may res own e of h =
      answered_ends last.Done r (out.Answer (value_of t.value)) (tuple_ended last.Taken t s) there own of (served_kept kind.Take r t s is there here may (submits res own e) h)
  matched_kept kind.Move s r t is there here may res own e of h = served_kept kind.Move r t s is there here may (submits res own e) h

  submit_kept : (s : Plain) (r : Request) (choice : Option Entry) (st : RequestState) → r.state ≡ st → request_at s r.id ≡ Some r → Chosen s event choice → r.caller ≡ caller → event ≡ Submit r.id → is_of r.id event ≡ true → P s → P (submit s r choice st).after
  submit_kept s r None state.Reserved is there chosen own e of h = unmatched_kept s r there is own e of h
  submit_kept s r (Some t) state.Reserved is there chosen own e of h =
      matched_kept r.kind s r t refl there ((chosen t refl).0) ((chosen t refl).1 r e there) is own e of h
  submit_kept s r choice state.Parked is there chosen own e of h = h
  submit_kept s r choice (state.Granted t) is there chosen own e of h = h
  submit_kept s r choice (state.Answered o) is there chosen own e of h = h

  collect_kept : (s : Plain) (r : Request) (st : RequestState) → r.state ≡ st → request_at s r.id ≡ Some r → r.caller ≡ caller → is_of r.id event ≡ true → P s → P (collect s r st).after
  collect_kept s r state.Reserved is there own of h = h
  collect_kept s r state.Parked is there own of h = h
  collect_kept s r (state.Granted t) is there own of h = h
  collect_kept s r (state.Answered o) is there own of h = k.request_ends (last_of o) r s there (not_granted_answered r.state o is) own of h

  settle_kept : (s : Plain) (r : Request) (ok : Bool) (st : RequestState) → r.state ≡ st → request_at s r.id ≡ Some r → r.caller ≡ caller → event ≡ Settle r.id ok → P s → P (settle s r ok st).after
  settle_kept s r ok state.Reserved is there own e h = h
  settle_kept s r ok state.Parked is there own e h = h
  settle_kept s r ok (state.Granted tuple) is there own e h = k.settles r tuple ok s there is own e h
  settle_kept s r ok (state.Answered o) is there own e h = h

  withdraw_request_kept : (s : Plain) (r : Request) (st : RequestState) → r.state ≡ st → request_at s r.id ≡ Some r → r.caller ≡ caller → is_of r.id event ≡ true → P s → P (withdraw_request s r st).after
  withdraw_request_kept s r state.Reserved is there own of h = k.request_ends last.Done r s there (not_granted_reserved r.state is) own of h
  withdraw_request_kept s r state.Parked is there own of h = k.request_ends last.Done r s there (not_granted_parked r.state is) own of h
  withdraw_request_kept s r (state.Granted t) is there own of h = collect_kept s r (state.Granted t) is there own of h
  withdraw_request_kept s r (state.Answered o) is there own of h = collect_kept s r (state.Answered o) is there own of h

  -- notifiers

  empty_kept : (s : Plain) (n : Notifier) (nothing : Out) (st : Hearing) → notifier_at s n.id ≡ Some n → P s → P (pop_empty s n nothing st).after
  empty_kept s n nothing hearing.Running there h = h
  empty_kept s n nothing (hearing.Closed l until) there h = k.notifier_ends l n s there h

  queue_kept : (s : Plain) (n : Notifier) (nothing : Out) (es : List Raised) → notifier_at s n.id ≡ Some n → queue n s.events ≡ es → P s → P (pop_queue s n nothing es).after
  queue_kept s n nothing [] there is h = empty_kept s n nothing n.state there h
  queue_kept s n nothing (e ∷ es) there is h = k.notifier_changes n.id (λ n. record n { popped = n.popped + 1 }) s (record { id = λ n. refl; event = λ n. refl; pattern = λ n. refl; since = λ n. refl }) (at_row s n _ there (becomes_popped s n e es is)) h

  pop_kept : (s : Plain) (id : ℕ) (f : Found) → found s id ≡ f → P s → P (pop s f).after
  pop_kept s id (TheRequest r) e h = h
  pop_kept s id (TheTuple t) e h = h
  pop_kept s id (TheNotifier n) e h = queue_kept s n out.NotYet (queue n s.events) (itself-notifier s id n (found-notifier s id n e)) refl h
  pop_kept s id (HasEnded kd l) e h = h
  pop_kept s id IsRecycled e h = h
  pop_kept s id IsUnknown e h = h

  withdraw_kept : (s : Plain) (id : ℕ) (f : Found) → found s id ≡ f → event ≡ Withdraw id → P s → P (withdraw s caller f).after
  withdraw_kept s id (TheRequest r) e is h = by_test (r.caller == caller) refl
    where
      there : request_at s id ≡ Some r
      there = found-request s id r e

      of : is_of r.id event ≡ true
      of = rw is (equal_id id r.id (sym (row_has_id (λ (r : Request). r.id) id s.requests r there)))

      by_test : (b : Bool) → r.caller == caller ≡ b → P (cond {A = Outcome} b (withdraw_request s r r.state) (answers s out.WrongKind)).after
      by_test true own = withdraw_request_kept s r r.state refl (itself-request s id r there) (same_id r.caller caller own) of h
      by_test false own = h
  withdraw_kept s id (TheTuple t) e is h = h
  withdraw_kept s id (TheNotifier n) e is h = queue_kept s n out.WouldWait (queue n s.events) (itself-notifier s id n (found-notifier s id n e)) refl h
  withdraw_kept s id (HasEnded kd l) e is h = h
  withdraw_kept s id IsRecycled e is h = h
  withdraw_kept s id IsUnknown e is h = h

  -- cancel

  cancel_tuple_kept : (s : Plain) (t : Entry) (o : Option ℕ) → t.holder ≡ o → tuple_at s t.id ≡ Some t → P s → P (cancel_tuple s t o)
  cancel_tuple_kept s t (Some holder) is here h = k.tuple_marks t holder s here is h
  cancel_tuple_kept s t None is here h = k.tuple_leaves last.Canceled t s here is h

  cancel_request_kept : (s : Plain) (r : Request) (st : RequestState) → r.state ≡ st → request_at s r.id ≡ Some r → event ≡ Cancel r.id → P s → P (cancel_request s r st)
  cancel_request_kept s r state.Reserved is there e h = k.request_marks r s there is e h
  cancel_request_kept s r state.Parked is there e h = k.request_answers r out.Canceled s there (cancels is e refl) h
  cancel_request_kept s r (state.Granted t) is there e h = h
  cancel_request_kept s r (state.Answered o) is there e h = h

  cancel_notifier_kept : (s : Plain) (n : Notifier) (st : Hearing) → n.state ≡ st → notifier_at s n.id ≡ Some n → P s → P (cancel_notifier s n st)
  cancel_notifier_kept s n hearing.Running is there h = k.notifier_changes n.id _ s (record { id = λ n. refl; event = λ n. refl; pattern = λ n. refl; since = λ n. refl }) (at_row s n _ there (becomes_closed s n last.Canceled is)) h
  cancel_notifier_kept s n (hearing.Closed l until) is there h = h

  cancel_kept : (s : Plain) (id : ℕ) (f : Found) → found s id ≡ f → event ≡ Cancel id → P s → P (cancel s f).after
  cancel_kept s id (TheRequest r) e is h =
      let there : request_at s id ≡ Some r = found-request s id r e in
      let same : r.id ≡ id = row_has_id (λ (r : Request). r.id) id s.requests r there in
      cancel_request_kept s r r.state refl (itself-request s id r there) (is ∙ ap Cancel (sym same)) h
  cancel_kept s id (TheTuple t) e is h = cancel_tuple_kept s t t.holder refl (itself-tuple s id t (found-tuple s id t e)) h
  cancel_kept s id (TheNotifier n) e is h = cancel_notifier_kept s n n.state refl (itself-notifier s id n (found-notifier s id n e)) h
  cancel_kept s id (HasEnded kd l) e is h = h
  cancel_kept s id IsRecycled e is h = h
  cancel_kept s id IsUnknown e is h = h

  -- renew and asked

  renew_request_kept : (s : Plain) (d : Option ℕ) (renewer : Option Remote) (r : Request) (st : RequestState) → r.state ≡ st → request_at s r.id ≡ Some r → P s → P (renew_request s d renewer r st)
  renew_request_kept s d renewer r state.Reserved is there h = k.request_leases r _ s there (leases_request d renewer) (or_right (is_asked r.doubt) _ (or_left (is_reserved r.state) (is_parked r.state) (ap is_reserved is))) (λ _. refl) h
  renew_request_kept s d renewer r state.Parked is there h = k.request_leases r _ s there (leases_request d renewer) (or_right (is_asked r.doubt) _ (or_right (is_reserved r.state) (is_parked r.state) (ap is_parked is))) (λ _. refl) h
  renew_request_kept s d renewer r (state.Granted t) is there h = h
  renew_request_kept s d renewer r (state.Answered o) is there h = h

  renew_notifier_kept : (s : Plain) (d : Option ℕ) (renewer : Option Remote) (n : Notifier) (st : Hearing) → P s → P (renew_notifier s d renewer n st)
  renew_notifier_kept s d renewer n hearing.Running h = k.notifier_changes n.id _ s (leases_notifier d renewer) (λ x _. becomes_leased s d renewer x) h
  renew_notifier_kept s d renewer n (hearing.Closed l until) h = h

  renew_kept : (s : Plain) (id : ℕ) (d : Option ℕ) (renewer : Option Remote) (f : Found) → found s id ≡ f → P s → P (renew_with s d renewer f).after
  renew_kept s id d renewer (TheRequest r) e h = renew_request_kept s d renewer r r.state refl (itself-request s id r (found-request s id r e)) h
  renew_kept s id d renewer (TheTuple t) e h = k.tuple_leases t.id _ s (leases_tuple d renewer) (λ _ _ _. refl) h
  renew_kept s id d renewer (TheNotifier n) e h = renew_notifier_kept s d renewer n n.state h
  renew_kept s id d renewer (HasEnded kd l) e h = h
  renew_kept s id d renewer IsRecycled e h = h
  renew_kept s id d renewer IsUnknown e h = h

  told_tuple_kept : (s : Plain) (d : Option ℕ) (t : Entry) → P s → P (told_tuple s d t)
  told_tuple_kept s d t h = by_test (is_asked t.doubt)
    where
      by_test : (b : Bool) → P (cond {A = Plain} b (with_tuple t.id (renewed_tuple d (renewer_of d t.renewer s.clock)) s) s)
      by_test true = k.tuple_leases t.id _ s (leases_tuple d (renewer_of d t.renewer s.clock)) (λ _ _ _. refl) h
      by_test false = h

  told_request_kept : (s : Plain) (d : Option ℕ) (r : Request) → request_at s r.id ≡ Some r → P s → P (told_request s d r)
  told_request_kept s d r there h = by_test (is_asked r.doubt) refl
    where
      by_test : (b : Bool) → is_asked r.doubt ≡ b → P (cond {A = Plain} b (with_request r.id (renewed_request d (renewer_of d r.renewer s.clock)) s) s)
      by_test true e = k.request_leases r _ s there (leases_request d (renewer_of d r.renewer s.clock)) (or_left (is_asked r.doubt) _ e) (λ _. refl) h
      by_test false e = h

  told_notifier_kept : (s : Plain) (d : Option ℕ) (n : Notifier) → P s → P (told_notifier s d n)
  told_notifier_kept s d n h = by_test (is_asked n.doubt)
    where
      by_test : (b : Bool) → P (cond {A = Plain} b (with_notifier n.id (renewed_notifier d (renewer_of d n.renewer s.clock)) s) s)
      by_test true = k.notifier_changes n.id _ s (leases_notifier d (renewer_of d n.renewer s.clock)) (λ x _. becomes_leased s d _ x) h
      by_test false = h

  told_kept : (s : Plain) (id : ℕ) (d : Option ℕ) (f : Found) → found s id ≡ f → P s → P (told s d f).after
  told_kept s id d (TheRequest r) e h = told_request_kept s d r (itself-request s id r (found-request s id r e)) h
  told_kept s id d (TheTuple t) e h = told_tuple_kept s d t h
  told_kept s id d (TheNotifier n) e h = told_notifier_kept s d n h
  told_kept s id d (HasEnded kd l) e h = h
  told_kept s id d IsRecycled e h = h
  told_kept s id d IsUnknown e h = h

  ask_kept : (s : Plain) (a : Option Asking) → P s → P (ask s a).after
  ask_kept s None h = h
  ask_kept s (Some a) h =
      k.tuple_leases a.id _ _ (record { id = λ t. refl; value = λ t. refl; holder = λ t. refl; marked = λ t. refl }) (λ t _ e. doubts_asked t.doubt (is_none t.renewer) e)
      (k.request_asks a.id _
      (k.notifier_changes a.id _ s (record { id = λ n. refl; event = λ n. refl; pattern = λ n. refl; since = λ n. refl }) (λ x _. becomes_asked s x) h))

  look_kept : (s : Plain) (f : Found) → P s → P (look s f).after
  look_kept s (TheRequest r) h = h
  look_kept s (TheTuple t) h = h
  look_kept s (TheNotifier n) h = h
  look_kept s (HasEnded kd l) h = h
  look_kept s IsRecycled h = h
  look_kept s IsUnknown h = h

  value_kept : (s : Plain) (f : Found) → P s → P (value s f).after
  value_kept s (TheRequest r) h = h
  value_kept s (TheTuple t) h = h
  value_kept s (TheNotifier n) h = h
  value_kept s (HasEnded kd l) h = h
  value_kept s IsRecycled h = h
  value_kept s IsUnknown h = h

  -- what a space takes in that isn't shut
  unless_shut_kept : (s : Plain) (case : Outcome) → (s.shut ≡ false → P case.after) → P s → P (unless_shut s case).after
  unless_shut_kept s case each h = by_test s.shut refl
    where
      by_test : (b : Bool) → s.shut ≡ b → P (cond {A = Outcome} b (answers s out.Shut) case).after
      by_test true e = h
      by_test false e = each e

  write_kept : (s : Plain) (v : Tuple) (lease : Lease) → P s → P (write s v lease).after
  write_kept s v lease h = unless_shut_kept s _ (λ e. by_test e (is_over s.clock (deadline lease.life s.clock))) h
    where
      by_test : s.shut ≡ false → (b : Bool) → P (cond {A = Plain} b (written_over (new_tuple s v lease) (minted s)) (written (new_tuple s v lease) (minted s)))
      by_test e true = k.writes_over s v lease e h
      by_test e false = k.writes s v lease e h

  reserve_kept : (s : Plain) (kd : Kind) (pattern : Template) (lease : Lease) → P s → P (reserve s caller kd pattern lease).after
  reserve_kept s kd pattern lease h = unless_shut_kept s _ (λ e. k.reserves s kd pattern lease e h) h

  notify_kept : (s : Plain) (e : Tree) (pattern : Template) (lease : Lease) → P s → P (notify s e pattern lease).after
  notify_kept s e pattern lease h = unless_shut_kept s _ (λ open_. k.notifies s e pattern lease open_ h) h

  shut_kept : (s : Plain) → event ≡ Shut → P s → P (shut s).after
  shut_kept s is h = by_test s.shut refl
    where
      by_test : (b : Bool) → s.shut ≡ b → P (cond {A = Outcome} b (answers s out.NotYet) (answers (shut_down s) out.Plain)).after
      by_test true e = h
      by_test false e = k.shuts s e is h

  -- all events

  named : (id : ℕ) (i : ℕ) (e : Event) → event ≡ e → is_of id e ≡ true → is_of id event ≡ true
  named id i e is of = subst (λ (e : Event). is_of id e ≡ true) (sym is) of

  pub outcome_ways : (s : Plain) (e : Event) (choice : Option Entry) → event ≡ e → Chosen s event choice → P s → P (outcome s caller e choice).after
  outcome_ways s (Write v lease) choice is chosen h = write_kept s v lease h
  outcome_ways s (Reserve kd pattern lease) choice is chosen h = reserve_kept s kd pattern lease h
  outcome_ways s (Submit id) choice is chosen h = on_own_kept s id (found s id) (λ r. submit s r choice r.state) refl (λ r there same own. submit_kept s r choice r.state refl there chosen own (is ∙ ap Submit (sym same)) (rw is (equal_id id r.id (sym same))) h) h
  outcome_ways s (Collect id) choice is chosen h = on_own_kept s id (found s id) (λ r. collect s r r.state) refl (λ r there same own. collect_kept s r r.state refl there own (rw is (equal_id id r.id (sym same))) h) h
  outcome_ways s (Settle id ok) choice is chosen h = on_own_kept s id (found s id) (λ r. settle s r ok r.state) refl (λ r there same own. settle_kept s r ok r.state refl there own (is ∙ ap (λ (i : ℕ). Settle i ok) (sym same)) h) h
  outcome_ways s (Withdraw id) choice is chosen h = withdraw_kept s id (found s id) refl is h
  outcome_ways s (Cancel id) choice is chosen h = cancel_kept s id (found s id) refl is h
  outcome_ways s (Renew id lease) choice is chosen h = renew_kept s id (deadline lease.life s.clock) (renewer_of (deadline lease.life s.clock) lease.renewer s.clock) (found s id) refl h
  outcome_ways s (Look id) choice is chosen h = look_kept s (found s id) h
  outcome_ways s (Value id) choice is chosen h = value_kept s (found s id) h
  outcome_ways s (ReadAll pattern) choice is chosen h = h
  outcome_ways s (Notify e pattern lease) choice is chosen h = notify_kept s e pattern lease h
  outcome_ways s (Pop id) choice is chosen h = pop_kept s id (found s id) refl h
  outcome_ways s NextAsk choice is chosen h = ask_kept s (least (askings s)) h
  outcome_ways s (Asked id life) choice is chosen h = told_kept s id (deadline life s.clock) (found s id) refl h
  outcome_ways s Tick choice is chosen h = h
  outcome_ways s Shut choice is chosen h = shut_kept s is h

-- the request that picks in its own case is the one that the event submits
matched-found : (s : Plain) (caller id : ℕ) (f : Found) (r : Request) → matched s caller f ≡ Some r → f ≡ TheRequest r
matched-found s caller id (TheTuple t) r e = cc
matched-found s caller id (TheNotifier n) r e = cc
matched-found s caller id (HasEnded kd l) r e = cc
matched-found s caller id IsRecycled r e = cc
matched-found s caller id IsUnknown r e = cc
matched-found s caller id (TheRequest q) r e = by_test (q.caller == caller && (is_reserved q.state && has_match s q)) e
  where
    by_test : (b : Bool) → cond {A = Option Request} b (Some q) None ≡ Some r → TheRequest q ≡ TheRequest r
    by_test true e = grind arith
    by_test false e = cc

abbrev submit_id : Event → ℕ
submit_id (Submit i) = i
submit_id _ = 0

submitted : (i id : ℕ) → Submit i ≡ Submit id → i ≡ id
submitted i id e = ap submit_id e

chooser-submits : (s : Plain) (caller : ℕ) (event : Event) (r : Request) (id : ℕ) → chooser s caller event ≡ Some r → event ≡ Submit id → request_at s id ≡ Some r
chooser-submits s caller (Write v lease) r id e is = cc
chooser-submits s caller (Reserve kd pattern lease) r id e is = cc
chooser-submits s caller (Submit i) r id e is = found-request s id r (rw (← submitted i id is) (matched-found s caller i (found s i) r e))
chooser-submits s caller (Collect i) r id e is = cc
chooser-submits s caller (Settle i ok) r id e is = cc
chooser-submits s caller (Withdraw i) r id e is = cc
chooser-submits s caller (Cancel i) r id e is = cc
chooser-submits s caller (Renew i lease) r id e is = cc
chooser-submits s caller (Look i) r id e is = cc
chooser-submits s caller (Value i) r id e is = cc
chooser-submits s caller (ReadAll pattern) r id e is = cc
chooser-submits s caller (Notify x pattern lease) r id e is = cc
chooser-submits s caller (Pop i) r id e is = cc
chooser-submits s caller NextAsk r id e is = cc
chooser-submits s caller (Asked i life) r id e is = cc
chooser-submits s caller Tick r id e is = cc
chooser-submits s caller Shut r id e is = cc

pub chosen_none : (s : Plain) (event : Event) → Chosen s event None
chosen_none s event t e = cc

pub chosen_match : (s : Plain) (caller : ℕ) (event : Event) (r : Request) (pick : Pick) → chooser s caller event ≡ Some r → is_match s r pick ≡ true → Chosen s event (tuple_at s pick.tuple)
chosen_match s caller event r pick chooses match t e = (
  itself-tuple s pick.tuple t e,
  λ q is there.
      let same : q ≡ r = some_same (sym there ∙ chooser-submits s caller event r q.id chooses is) in
      rw same (subst (λ (o : Option Entry). may_have_row s r o ≡ true) e (back _ _ match)),
)
  where
    some_same : {x y : Request} → Some x ≡ Some y → x ≡ y
    some_same e = grind arith
