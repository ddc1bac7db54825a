-- Which one row is due after each event's own case.
use Rattle.std.proofs.Common.{◌≡◌, ℕ, Bool, true, false, cond, not, ◌&&◌, ◌||◌, List, [], ◌∷◌, ◌++◌, length, Option, Some, None, refl, subst, arith}
use Rattle.std.specs.Prelude.{◌==◌, ◌+◌, is_none}
use Rattle.std.specs.List.{list_all}
use Rattle.std.proofs.lemmas.Bool.Decides.{nat_tests}
use Rattle.drb_tree.specs.declared.Tree.{Tree}
use Rattle.drb_tree.specs.declared.Remote.{Remote}
use Rattle.rinda_tuple.specs.declared.tuple.Tuple.{Tuple}
use Rattle.rinda_tuple.specs.declared.tuple.Template.{Template}
use Rattle.rinda_tuple.specs.declared.lease.Lease.{Lease}
use Rattle.rinda_tuple.specs.Lives.{deadline}
use Rattle.rinda_tuple.specs.Tuples.{value_of}
use Rattle.rinda_tuple.specs.Matching.{matches}
use Rattle.rinda_rules.specs.declared.object.Last.{Last}
use Rattle.rinda_rules.specs.declared.object.Last.TheVariants as last
use Rattle.rinda_rules.specs.declared.object.Doubt.{Doubt}
use Rattle.rinda_rules.specs.declared.object.Doubt.TheVariants as doubt
use Rattle.rinda_rules.specs.declared.event.Kind.{Kind}
use Rattle.rinda_rules.specs.declared.event.Kind.TheVariants as kind
use Rattle.rinda_rules.specs.declared.event.Event.{Event}
use Rattle.rinda_rules.specs.declared.event.Event.TheVariants.{Write, Reserve, Submit, Collect, Settle, Withdraw, Cancel, Renew, Look, Value, ReadAll, Notify, Pop, NextAsk, Asked, Tick, Shut}
use Rattle.rinda_rules.specs.declared.out.Out.{Out}
use Rattle.rinda_rules.specs.declared.out.Out.TheVariants as out
use Rattle.rinda_rules.specs.declared.row.RequestState.{RequestState}
use Rattle.rinda_rules.specs.declared.row.RequestState.TheVariants as state
use Rattle.rinda_rules.specs.declared.plain.Entry.{Entry}
use Rattle.rinda_rules.specs.declared.plain.Request.{Request}
use Rattle.rinda_rules.specs.declared.plain.Notifier.{Notifier}
use Rattle.rinda_rules.specs.declared.plain.Hearing.{Hearing}
use Rattle.rinda_rules.specs.declared.plain.Hearing.TheVariants as hearing
use Rattle.rinda_rules.specs.declared.plain.Raised.{Raised}
use Rattle.rinda_rules.specs.Rows.{changed}
use Rattle.rinda_rules.specs.Space.{Plain, Found, TheTuple, TheRequest, TheNotifier, HasEnded, IsRecycled, IsUnknown, found, tuple_at, is_over, is_free, is_doubted, is_reserved, is_parked, is_running, is_waiting, is_read, is_due_tuple, is_due_request, is_due_notifier, renewer_of}
use Rattle.rinda_rules.specs.Queue.{queue}
use Rattle.rinda_rules.specs.Phases.{nothing_due, in_state, held_by, request_in, request_ended, tuple_ended, notifier_ended, with_tuple, with_request, with_notifier, served_as}
use Rattle.rinda_rules.specs.Cases.{Outcome, answers, unless_shut, new_tuple, new_request, new_notifier, read_by, minted, written, written_over, write_tuple, reserve, notify, on_own, submit, submit_matched, submit_unmatched, collect_served, collect, last_of, let_go, settle_tuple, settle, pop_empty, pop_queue, pop, withdraw_request, withdraw, cancel_tuple, cancel_request, cancel_notifier, cancel, renewed_tuple, renewed_request, renewed_notifier, renew_request, renew_notifier, renew_with, look, value, Asking, askings, least, asked_doubt, ask, is_asked, told, shut_request, shut_notifier, shut_down, shut, outcome}
use Rattle.rinda_rules.proofs.Lists.{all_imp, all_filter, all_append, all_changed, row_has_id}
use Rattle.rinda_rules.proofs.Finding.{found-request, found-tuple, found-notifier}
use Rattle.rinda_effects.specs.Touches.{let_go_of, settle_touches}
use Rattle.rinda_effects.specs.Dues.{id_of, due_after, is_one, due_only}
use Rattle.rinda_effects.proofs.Pairs.{all_to_map}

front : (a b : Bool) → (a && b) ≡ true → a ≡ true
front a b e = grind arith

back : (a b : Bool) → (a && b) ≡ true → b ≡ true
back a b e = grind arith

both : (a b : Bool) → a ≡ true → b ≡ true → (a && b) ≡ true
both a b e f = grind arith

or_right : (a b : Bool) → b ≡ true → (a || b) ≡ true
or_right a b e = grind arith

-- nothing is due, list by list
pub record NotDue (s : Plain) : Type 0 where
  pub tuples : list_all (λ t. not (is_due_tuple s.clock t)) s.tuples ≡ true
  pub requests : list_all (λ r. not (is_due_request s.clock r)) s.requests ≡ true
  pub notifiers : list_all (λ n. not (is_due_notifier s.clock n)) s.notifiers ≡ true

pub not_due_of : (s : Plain) → nothing_due s ≡ true → NotDue s
not_due_of s e = record { tuples = front _ _ e; requests = front _ _ (back _ _ e); notifiers = back _ _ (back _ _ e) }

-- at most one is due, list by list
pub record OneDue (one : Option ℕ) (s : Plain) : Type 0 where
  pub tuples : list_all (λ t. is_one one t.id || not (is_due_tuple s.clock t)) s.tuples ≡ true
  pub requests : list_all (λ r. is_one one r.id || not (is_due_request s.clock r)) s.requests ≡ true
  pub notifiers : list_all (λ n. is_one one n.id || not (is_due_notifier s.clock n)) s.notifiers ≡ true

-- among lists

still_all : {R : Type 0} (one : Option ℕ) (key : R → ℕ) (q : R → Bool) (xs : List R) → list_all (λ x. not (q x)) xs ≡ true → list_all (λ x. is_one one (key x) || not (q x)) xs ≡ true
still_all one key q xs e = all_imp (λ x. not (q x)) (λ x. is_one one (key x) || not (q x)) (λ x. or_right (is_one one (key x)) (not (q x))) xs e

changed_one : {R : Type 0} (key : R → ℕ) (id : ℕ) (f : R → R) (q : R → Bool) (xs : List R) → ((x : R) → key (f x) ≡ key x) → list_all (λ x. not (q x)) xs ≡ true → list_all (λ x. key x == id || not (q x)) (changed key id f xs) ≡ true
changed_one key id f q [] keeps e = refl
changed_one key id f q (x ∷ xs) keeps e = grind (arith, nat_tests, keeps x, changed_one key id f q xs keeps)

one_more : {R : Type 0} (one : Option ℕ) (key : R → ℕ) (q : R → Bool) (x : R) (xs : List R) → (is_one one (key x) || not (q x)) ≡ true → list_all (λ x. not (q x)) xs ≡ true → list_all (λ x. is_one one (key x) || not (q x)) (xs ++ x ∷ []) ≡ true
one_more one key q x xs new e = all_append (λ x. is_one one (key x) || not (q x)) xs (x ∷ []) (still_all one key q xs e) (both _ true new refl)

-- Changes.

still : (one : Option ℕ) (s : Plain) → NotDue s → OneDue one s
still one s h = record { tuples = still_all one (λ t. t.id) (is_due_tuple s.clock) s.tuples h.tuples; requests = still_all one (λ r. r.id) (is_due_request s.clock) s.requests h.requests; notifiers = still_all one (λ n. n.id) (is_due_notifier s.clock) s.notifiers h.notifiers }

no_tuple : (l : Last) (t : Entry) (s : Plain) → NotDue s → NotDue (tuple_ended l t s)
no_tuple l t s h = record { tuples = all_filter (λ t. not (is_due_tuple s.clock t)) (λ x. not (x.id == t.id)) s.tuples h.tuples; requests = h.requests; notifiers = h.notifiers }

no_request : (l : Last) (id : ℕ) (s : Plain) → NotDue s → NotDue (request_ended l id s)
no_request l id s h = record { tuples = h.tuples; requests = all_filter (λ r. not (is_due_request s.clock r)) (λ x. not (x.id == id)) s.requests h.requests; notifiers = h.notifiers }

one_no_request : (one : Option ℕ) (l : Last) (id : ℕ) (s : Plain) → OneDue one s → OneDue one (request_ended l id s)
one_no_request one l id s h = record { tuples = h.tuples; requests = all_filter (λ r. is_one one r.id || not (is_due_request s.clock r)) (λ x. not (x.id == id)) s.requests h.requests; notifiers = h.notifiers }

no_notifier : (l : Last) (id : ℕ) (s : Plain) → NotDue s → NotDue (notifier_ended l id s)
no_notifier l id s h = record { tuples = h.tuples; requests = h.requests; notifiers = all_filter (λ n. not (is_due_notifier s.clock n)) (λ x. not (x.id == id)) s.notifiers h.notifiers }

unparked : (now : ℕ) (st : RequestState) (r : Request) → is_parked st ≡ false → not (is_due_request now (in_state st r)) ≡ true
unparked now st r e = none (is_parked st) (not (is_doubted r.doubt)) (is_over now r.deadline) e
  where
    none : (p d o : Bool) → p ≡ false → not ((p && d) && o) ≡ true
    none p d o e = grind arith

request_done : (id : ℕ) (st : RequestState) (s : Plain) → is_parked st ≡ false → NotDue s → NotDue (request_in id st s)
request_done id st s e h = record { tuples = h.tuples; requests = all_changed (λ r. not (is_due_request s.clock r)) (λ r. r.id) id (in_state st) s.requests (λ x _. unparked s.clock st x e) h.requests; notifiers = h.notifiers }

one_tuple : (id : ℕ) (f : Entry → Entry) (s : Plain) → ((t : Entry) → (f t).id ≡ t.id) → NotDue s → OneDue (Some id) (with_tuple id f s)
one_tuple id f s keeps h = record { tuples = changed_one (λ t. t.id) id f (is_due_tuple s.clock) s.tuples keeps h.tuples; requests = still_all (Some id) (λ r. r.id) (is_due_request s.clock) s.requests h.requests; notifiers = still_all (Some id) (λ n. n.id) (is_due_notifier s.clock) s.notifiers h.notifiers }

one_request : (id : ℕ) (f : Request → Request) (s : Plain) → ((r : Request) → (f r).id ≡ r.id) → NotDue s → OneDue (Some id) (with_request id f s)
one_request id f s keeps h = record { tuples = still_all (Some id) (λ t. t.id) (is_due_tuple s.clock) s.tuples h.tuples; requests = changed_one (λ r. r.id) id f (is_due_request s.clock) s.requests keeps h.requests; notifiers = still_all (Some id) (λ n. n.id) (is_due_notifier s.clock) s.notifiers h.notifiers }

one_notifier : (id : ℕ) (f : Notifier → Notifier) (s : Plain) → ((n : Notifier) → (f n).id ≡ n.id) → NotDue s → OneDue (Some id) (with_notifier id f s)
one_notifier id f s keeps h = record { tuples = still_all (Some id) (λ t. t.id) (is_due_tuple s.clock) s.tuples h.tuples; requests = still_all (Some id) (λ r. r.id) (is_due_request s.clock) s.requests h.requests; notifiers = changed_one (λ n. n.id) id f (is_due_notifier s.clock) s.notifiers keeps h.notifiers }

tuple_changes : (id : ℕ) (f : Entry → Entry) (s : Plain) → ((t : Entry) → not (is_due_tuple s.clock t) ≡ true → not (is_due_tuple s.clock (f t)) ≡ true) → NotDue s → NotDue (with_tuple id f s)
tuple_changes id f s keeps h = record { tuples = all_changed (λ t. not (is_due_tuple s.clock t)) (λ t. t.id) id f s.tuples keeps h.tuples; requests = h.requests; notifiers = h.notifiers }

request_changes : (id : ℕ) (f : Request → Request) (s : Plain) → ((r : Request) → not (is_due_request s.clock r) ≡ true → not (is_due_request s.clock (f r)) ≡ true) → NotDue s → NotDue (with_request id f s)
request_changes id f s keeps h = record { tuples = h.tuples; requests = all_changed (λ r. not (is_due_request s.clock r)) (λ r. r.id) id f s.requests keeps h.requests; notifiers = h.notifiers }

notifier_changes : (id : ℕ) (f : Notifier → Notifier) (s : Plain) → ((n : Notifier) → not (is_due_notifier s.clock n) ≡ true → not (is_due_notifier s.clock (f n)) ≡ true) → NotDue s → NotDue (with_notifier id f s)
notifier_changes id f s keeps h = record { tuples = h.tuples; requests = h.requests; notifiers = all_changed (λ n. not (is_due_notifier s.clock n)) (λ n. n.id) id f s.notifiers keeps h.notifiers }

held : (k : Kind) (r : Request) (t : Entry) (s : Plain) → NotDue s → NotDue (served_as k r t s)
held kind.Read r t s h = request_done r.id _ s refl h
held kind.Take r t s h = request_done r.id _ (tuple_ended last.Taken t s) refl (no_tuple last.Taken t s h)
held kind.Move r t s h = request_done r.id _ (with_tuple t.id (held_by r.id) s) refl (tuple_changes t.id (held_by r.id) s (λ x _. refl) h)

unless : (one : Option ℕ) (s : Plain) (case : Outcome) → OneDue one s → OneDue one case.after → OneDue one (unless_shut s case).after
unless one s case a b = by_test s.shut
  where
    by_test : (q : Bool) → OneDue one (cond {A = Outcome} q (answers s out.Shut) case).after
    by_test true = a
    by_test false = b

-- Write, reserve, notify.

lasting : (f d o : Bool) → o ≡ false → (false || not (f && (d && o))) ≡ true
lasting f d o e = grind arith

read_due : (now : ℕ) (v : Tuple) (r : Request) → not (is_due_request now r) ≡ true → not (is_due_request now (read_by v r)) ≡ true
read_due now v r h = by_test (is_read r.kind && (is_waiting r && matches r.pattern v))
  where
    by_test : (b : Bool) → not (is_due_request now (cond {A = Request} b (in_state (state.Answered (out.Answer (value_of v))) r) r)) ≡ true
    by_test true = refl
    by_test false = h

written_due : (s : Plain) (t : Entry) → is_over s.clock t.deadline ≡ false → NotDue s → OneDue None (written t s)
written_due s t e h = record { tuples = one_more None (λ t. t.id) (is_due_tuple s.clock) t s.tuples (lasting (is_free t) (not (is_doubted t.doubt)) (is_over s.clock t.deadline) e) h.tuples; requests = still_all None (λ r. r.id) (is_due_request s.clock) s.requests h.requests; notifiers = still_all None (λ n. n.id) (is_due_notifier s.clock) s.notifiers h.notifiers }

written_over_due : (s : Plain) (t : Entry) → NotDue s → NotDue (written_over t s)
written_over_due s t h = record { tuples = h.tuples; requests = all_to_map (λ r. not (is_due_request s.clock r)) (λ r. not (is_due_request s.clock r)) (read_by t.value) (read_due s.clock t.value) s.requests h.requests; notifiers = h.notifiers }

minted_due : (s : Plain) → NotDue s → NotDue (minted s)
minted_due s h = record { tuples = h.tuples; requests = h.requests; notifiers = h.notifiers }

write_due : (s : Plain) (v : Tuple) (lease : Lease) → NotDue s → OneDue None (write_tuple s (new_tuple s v lease))
write_due s v lease h = by_test (is_over s.clock (deadline lease.life s.clock)) refl
  where
    by_test : (b : Bool) → is_over s.clock (deadline lease.life s.clock) ≡ b → OneDue None (cond {A = Plain} b (written_over (new_tuple s v lease) (minted s)) (written (new_tuple s v lease) (minted s)))
    by_test true is = still None _ (written_over_due (minted s) (new_tuple s v lease) (minted_due s h))
    by_test false is = written_due (minted s) (new_tuple s v lease) is (minted_due s h)

reserve_due : (s : Plain) (caller : ℕ) (k : Kind) (pattern : Template) (lease : Lease) → NotDue s → OneDue None (reserve s caller k pattern lease).after
reserve_due s caller k pattern lease h = unless None s _ (still None s h) (record { tuples = still_all None (λ t. t.id) (is_due_tuple s.clock) s.tuples h.tuples; requests = one_more None (λ r. r.id) (is_due_request s.clock) (new_request s caller k pattern lease) s.requests refl h.requests; notifiers = still_all None (λ n. n.id) (is_due_notifier s.clock) s.notifiers h.notifiers })

itself : (id : ℕ) (b : Bool) → (id == id || b) ≡ true
itself id b = grind (arith, nat_tests)

notify_due : (s : Plain) (v : Tree) (pattern : Template) (lease : Lease) → NotDue s → OneDue (Some s.next) (notify s v pattern lease).after
notify_due s v pattern lease h = unless (Some s.next) s _ (still (Some s.next) s h) (record { tuples = still_all (Some s.next) (λ t. t.id) (is_due_tuple s.clock) s.tuples h.tuples; requests = still_all (Some s.next) (λ r. r.id) (is_due_request s.clock) s.requests h.requests; notifiers = one_more (Some s.next) (λ n. n.id) (is_due_notifier s.clock) (new_notifier s v pattern lease) s.notifiers (itself s.next _) h.notifiers })

-- Only the caller's own request.
own_due : (one : Option ℕ) (s : Plain) (caller : ℕ) (case : Request → Outcome) (f : Found) → ((r : Request) → f ≡ TheRequest r → OneDue one (case r).after) → OneDue one s → OneDue one (on_own s caller case f).after
own_due one s caller case (TheRequest r) h e = by_test (r.caller == caller)
  where
    by_test : (b : Bool) → OneDue one (cond {A = Outcome} b (case r) (answers s out.WrongKind)).after
    by_test true = h r refl
    by_test false = e
own_due one s caller case (TheTuple t) h e = e
own_due one s caller case (TheNotifier n) h e = e
own_due one s caller case (HasEnded k l) h e = e
own_due one s caller case IsRecycled h e = e
own_due one s caller case IsUnknown h e = e

-- Submit.

submit_unmatched_due : (s : Plain) (r : Request) → NotDue s → OneDue (Some r.id) (submit_unmatched s r).after
submit_unmatched_due s r h = by_tests r.marked (is_over s.clock r.deadline && is_none r.renewer)
  where
    by_tests : (b c : Bool) → OneDue (Some r.id) (cond {A = Outcome} b (answers (request_ended last.Canceled r.id s) out.Canceled) (cond {A = Outcome} c (answers (request_ended last.Expired r.id s) out.Expired) (answers (request_in r.id state.Parked s) (out.Parked r.id)))).after
    by_tests true c = still (Some r.id) _ (no_request last.Canceled r.id s h)
    by_tests false true = still (Some r.id) _ (no_request last.Expired r.id s h)
    by_tests false false = one_request r.id (in_state state.Parked) s (λ r. refl) h

collect_served_due : (s : Plain) (r : Request) (t : Entry) (k : Kind) → NotDue s → NotDue (collect_served s r t k).after
collect_served_due s r t kind.Read h = no_request last.Done r.id s h
collect_served_due s r t kind.Take h = no_request last.Done r.id s h
collect_served_due s r t kind.Move h = h

submit_matched_due : (s : Plain) (r : Request) (choice : Option Entry) → NotDue s → OneDue (Some r.id) (submit_matched s r choice).after
submit_matched_due s r None h = submit_unmatched_due s r h
submit_matched_due s r (Some t) h = still (Some r.id) _ (collect_served_due (served_as r.kind r t s) r t r.kind (held r.kind r t s h))

submit_due : (s : Plain) (r : Request) (choice : Option Entry) (st : RequestState) → NotDue s → OneDue (Some r.id) (submit s r choice st).after
submit_due s r choice state.Reserved h = submit_matched_due s r choice h
submit_due s r choice state.Parked h = still (Some r.id) s h
submit_due s r choice (state.Granted t) h = still (Some r.id) s h
submit_due s r choice (state.Answered o) h = still (Some r.id) s h

named_request : (s : Plain) (id : ℕ) (r : Request) → found s id ≡ TheRequest r → r.id ≡ id
named_request s id r is = row_has_id (λ (r : Request). r.id) id s.requests r (found-request s id r is)

submit_own_due : (s : Plain) (caller id : ℕ) (choice : Option Entry) → NotDue s → OneDue (Some id) (on_own s caller (λ r. submit s r choice r.state) (found s id)).after
submit_own_due s caller id choice h = own_due (Some id) s caller (λ r. submit s r choice r.state) (found s id) (λ r is. subst (λ (i : ℕ). OneDue (Some i) (submit s r choice r.state).after) (named_request s id r is) (submit_due s r choice r.state h)) (still (Some id) s h)

-- Collect, settle, withdraw, cancel.

collect_due : (s : Plain) (r : Request) (st : RequestState) → NotDue s → NotDue (collect s r st).after
collect_due s r state.Reserved h = h
collect_due s r state.Parked h = h
collect_due s r (state.Granted t) h = h
collect_due s r (state.Answered o) h = no_request (last_of o) r.id s h

let_go_due : (s : Plain) (t : Entry) → NotDue s → OneDue (Some t.id) (let_go t s)
let_go_due s t h = by_test t.marked
  where
    by_test : (b : Bool) → OneDue (Some t.id) (cond {A = Plain} b (tuple_ended last.Canceled t s) (with_tuple t.id (λ t. record t { holder = None }) s))
    by_test true = still (Some t.id) _ (no_tuple last.Canceled t s h)
    by_test false = one_tuple t.id (λ t. record t { holder = None }) s (λ t. refl) h

settle_tuple_due : (s : Plain) (ok : Bool) (tuple : ℕ) (o : Option Entry) → tuple_at s tuple ≡ o → NotDue s → OneDue (id_of (let_go_of ok (state.Granted tuple))) (settle_tuple ok o s)
settle_tuple_due s true tuple None is h = still None s h
settle_tuple_due s false tuple None is h = still (Some tuple) s h
settle_tuple_due s true tuple (Some t) is h = still None _ (no_tuple last.Taken t s h)
settle_tuple_due s false tuple (Some t) is h = subst (λ (i : ℕ). OneDue (Some i) (let_go t s)) (row_has_id (λ (t : Entry). t.id) tuple s.tuples t is) (let_go_due s t h)

settle_due : (s : Plain) (r : Request) (ok : Bool) (st : RequestState) → NotDue s → OneDue (id_of (let_go_of ok st)) (settle s r ok st).after
settle_due s r ok state.Reserved h = still _ s h
settle_due s r ok state.Parked h = still _ s h
settle_due s r ok (state.Granted tuple) h = one_no_request (id_of (let_go_of ok (state.Granted tuple))) last.Done r.id _ (settle_tuple_due s ok tuple (tuple_at s tuple) refl h)
settle_due s r ok (state.Answered o) h = still _ s h

settle_own_due : (s : Plain) (caller : ℕ) (ok : Bool) (f : Found) → NotDue s → OneDue (id_of (settle_touches ok f)) (on_own s caller (λ r. settle s r ok r.state) f).after
settle_own_due s caller ok (TheRequest r) h = by_test (r.caller == caller)
  where
    by_test : (b : Bool) → OneDue (id_of (let_go_of ok r.state)) (cond {A = Outcome} b (settle s r ok r.state) (answers s out.WrongKind)).after
    by_test true = settle_due s r ok r.state h
    by_test false = still (id_of (let_go_of ok r.state)) s h
settle_own_due s caller ok (TheTuple t) h = still None s h
settle_own_due s caller ok (TheNotifier n) h = still None s h
settle_own_due s caller ok (HasEnded k l) h = still None s h
settle_own_due s caller ok IsRecycled h = still None s h
settle_own_due s caller ok IsUnknown h = still None s h

pop_empty_due : (s : Plain) (n : Notifier) (o : Out) (st : Hearing) → NotDue s → NotDue (pop_empty s n o st).after
pop_empty_due s n o hearing.Running h = h
pop_empty_due s n o (hearing.Closed l until) h = no_notifier l n.id s h

pop_queue_due : (s : Plain) (n : Notifier) (o : Out) (q : List Raised) → NotDue s → NotDue (pop_queue s n o q).after
pop_queue_due s n o [] h = pop_empty_due s n o n.state h
pop_queue_due s n o (x ∷ xs) h = notifier_changes n.id (λ n. record n { popped = n.popped + 1 }) s (λ n e. e) h

pop_due : (s : Plain) (f : Found) → NotDue s → NotDue (pop s f).after
pop_due s (TheRequest r) h = h
pop_due s (TheTuple t) h = h
pop_due s (TheNotifier n) h = pop_queue_due s n out.NotYet (queue n s.events) h
pop_due s (HasEnded k l) h = h
pop_due s IsRecycled h = h
pop_due s IsUnknown h = h

withdraw_request_due : (s : Plain) (r : Request) (st : RequestState) → NotDue s → NotDue (withdraw_request s r st).after
withdraw_request_due s r state.Reserved h = no_request last.Done r.id s h
withdraw_request_due s r state.Parked h = no_request last.Done r.id s h
withdraw_request_due s r (state.Granted t) h = h
withdraw_request_due s r (state.Answered o) h = no_request (last_of o) r.id s h

withdraw_due : (s : Plain) (caller : ℕ) (f : Found) → NotDue s → NotDue (withdraw s caller f).after
withdraw_due s caller (TheRequest r) h = by_test (r.caller == caller)
  where
    by_test : (b : Bool) → NotDue (cond {A = Outcome} b (withdraw_request s r r.state) (answers s out.WrongKind)).after
    by_test true = withdraw_request_due s r r.state h
    by_test false = h
withdraw_due s caller (TheTuple t) h = h
withdraw_due s caller (TheNotifier n) h = pop_queue_due s n out.WouldWait (queue n s.events) h
withdraw_due s caller (HasEnded k l) h = h
withdraw_due s caller IsRecycled h = h
withdraw_due s caller IsUnknown h = h

cancel_tuple_due : (s : Plain) (t : Entry) (o : Option ℕ) → NotDue s → NotDue (cancel_tuple s t o)
cancel_tuple_due s t None h = no_tuple last.Canceled t s h
cancel_tuple_due s t (Some i) h = tuple_changes t.id (λ t. record t { marked = true }) s (λ t e. e) h

cancel_request_due : (s : Plain) (r : Request) (st : RequestState) → NotDue s → NotDue (cancel_request s r st)
cancel_request_due s r state.Reserved h = request_changes r.id (λ r. record r { marked = true }) s (λ r e. e) h
cancel_request_due s r state.Parked h = request_done r.id (state.Answered out.Canceled) s refl h
cancel_request_due s r (state.Granted t) h = h
cancel_request_due s r (state.Answered o) h = h

cancel_notifier_due : (s : Plain) (n : Notifier) (st : Hearing) → NotDue s → NotDue (cancel_notifier s n st)
cancel_notifier_due s n hearing.Running h = notifier_changes n.id (λ n. record n { state = hearing.Closed last.Canceled (length s.events) }) s (λ n e. refl) h
cancel_notifier_due s n (hearing.Closed l until) h = h

cancel_due : (s : Plain) (f : Found) → NotDue s → NotDue (cancel s f).after
cancel_due s (TheRequest r) h = cancel_request_due s r r.state h
cancel_due s (TheTuple t) h = cancel_tuple_due s t t.holder h
cancel_due s (TheNotifier n) h = cancel_notifier_due s n n.state h
cancel_due s (HasEnded k l) h = h
cancel_due s IsRecycled h = h
cancel_due s IsUnknown h = h

-- Renew and asked.

renew_request_due : (s : Plain) (d : Option ℕ) (renewer : Option Remote) (r : Request) (st : RequestState) → NotDue s → OneDue (Some r.id) (renew_request s d renewer r st)
renew_request_due s d renewer r state.Reserved h = one_request r.id (renewed_request d renewer) s (λ r. refl) h
renew_request_due s d renewer r state.Parked h = one_request r.id (renewed_request d renewer) s (λ r. refl) h
renew_request_due s d renewer r (state.Granted t) h = still (Some r.id) s h
renew_request_due s d renewer r (state.Answered o) h = still (Some r.id) s h

renew_notifier_due : (s : Plain) (d : Option ℕ) (renewer : Option Remote) (n : Notifier) (st : Hearing) → NotDue s → OneDue (Some n.id) (renew_notifier s d renewer n st)
renew_notifier_due s d renewer n hearing.Running h = one_notifier n.id (renewed_notifier d renewer) s (λ n. refl) h
renew_notifier_due s d renewer n (hearing.Closed l until) h = still (Some n.id) s h

-- the row that an id names has that id
module _ (s : Plain) (id : ℕ) where
  of_request : (r : Request) (p : Plain) → found s id ≡ TheRequest r → OneDue (Some r.id) p → OneDue (Some id) p
  of_request r p is h = subst (λ (i : ℕ). OneDue (Some i) p) (named_request s id r is) h

  of_tuple : (t : Entry) (p : Plain) → found s id ≡ TheTuple t → OneDue (Some t.id) p → OneDue (Some id) p
  of_tuple t p is h = subst (λ (i : ℕ). OneDue (Some i) p) (row_has_id (λ (t : Entry). t.id) id s.tuples t (found-tuple s id t is)) h

  of_notifier : (n : Notifier) (p : Plain) → found s id ≡ TheNotifier n → OneDue (Some n.id) p → OneDue (Some id) p
  of_notifier n p is h = subst (λ (i : ℕ). OneDue (Some i) p) (row_has_id (λ (n : Notifier). n.id) id s.notifiers n (found-notifier s id n is)) h

renew_due : (s : Plain) (id : ℕ) (d : Option ℕ) (renewer : Option Remote) (f : Found) → found s id ≡ f → NotDue s → OneDue (Some id) (renew_with s d renewer f).after
renew_due s id d renewer (TheRequest r) is h = of_request s id r _ is (renew_request_due s d renewer r r.state h)
renew_due s id d renewer (TheTuple t) is h = of_tuple s id t _ is (one_tuple t.id (renewed_tuple d renewer) s (λ t. refl) h)
renew_due s id d renewer (TheNotifier n) is h = of_notifier s id n _ is (renew_notifier_due s d renewer n n.state h)
renew_due s id d renewer (HasEnded k l) is h = still (Some id) s h
renew_due s id d renewer IsRecycled is h = still (Some id) s h
renew_due s id d renewer IsUnknown is h = still (Some id) s h

told_due : (s : Plain) (id : ℕ) (d : Option ℕ) (f : Found) → found s id ≡ f → NotDue s → OneDue (Some id) (told s d f).after
told_due s id d (TheRequest r) is h = of_request s id r _ is (by_test (is_asked r.doubt))
  where
    by_test : (b : Bool) → OneDue (Some r.id) (cond {A = Plain} b (with_request r.id (renewed_request d (renewer_of d r.renewer s.clock)) s) s)
    by_test true = one_request r.id (renewed_request d (renewer_of d r.renewer s.clock)) s (λ r. refl) h
    by_test false = still (Some r.id) s h
told_due s id d (TheTuple t) is h = of_tuple s id t _ is (by_test (is_asked t.doubt))
  where
    by_test : (b : Bool) → OneDue (Some t.id) (cond {A = Plain} b (with_tuple t.id (renewed_tuple d (renewer_of d t.renewer s.clock)) s) s)
    by_test true = one_tuple t.id (renewed_tuple d (renewer_of d t.renewer s.clock)) s (λ t. refl) h
    by_test false = still (Some t.id) s h
told_due s id d (TheNotifier n) is h = of_notifier s id n _ is (by_test (is_asked n.doubt))
  where
    by_test : (b : Bool) → OneDue (Some n.id) (cond {A = Plain} b (with_notifier n.id (renewed_notifier d (renewer_of d n.renewer s.clock)) s) s)
    by_test true = one_notifier n.id (renewed_notifier d (renewer_of d n.renewer s.clock)) s (λ n. refl) h
    by_test false = still (Some n.id) s h
told_due s id d (HasEnded k l) is h = still (Some id) s h
told_due s id d IsRecycled is h = still (Some id) s h
told_due s id d IsUnknown is h = still (Some id) s h

-- NextAsk: whoever is being asked for was doubted.

asked_same : (d : Doubt) → is_doubted (asked_doubt d) ≡ is_doubted d
asked_same doubt.No = refl
asked_same doubt.Waiting = refl
asked_same doubt.Asked = refl

doubted_test : (a d d' o : Bool) → d' ≡ d → not (a && (not d && o)) ≡ true → not (a && (not d' && o)) ≡ true
doubted_test a d d' o e h = grind arith

doubted_request : (p d d' o : Bool) → d' ≡ d → not ((p && not d) && o) ≡ true → not ((p && not d') && o) ≡ true
doubted_request p d d' o e h = grind arith

ask_due : (s : Plain) (a : Option Asking) → NotDue s → NotDue (ask s a).after
ask_due s None h = h
ask_due s (Some a) h =
    let n : Plain = with_notifier a.id (λ n. record n { doubt = asked_doubt n.doubt }) s in
    let r : Plain = with_request a.id (λ r. record r { doubt = asked_doubt r.doubt }) n in
    tuple_changes a.id (λ t. record t { doubt = asked_doubt t.doubt }) r (λ t. doubted_test (is_free t) (is_doubted t.doubt) (is_doubted (asked_doubt t.doubt)) (is_over s.clock t.deadline) (asked_same t.doubt))
    (request_changes a.id (λ r. record r { doubt = asked_doubt r.doubt }) n (λ r. doubted_request (is_parked r.state) (is_doubted r.doubt) (is_doubted (asked_doubt r.doubt)) (is_over s.clock r.deadline) (asked_same r.doubt))
    (notifier_changes a.id (λ n. record n { doubt = asked_doubt n.doubt }) s (λ n. doubted_test (is_running n.state) (is_doubted n.doubt) (is_doubted (asked_doubt n.doubt)) (is_over s.clock n.deadline) (asked_same n.doubt)) h))

-- Look, value, shut.

look_due : (s : Plain) (f : Found) → NotDue s → NotDue (look s f).after
look_due s (TheRequest r) h = h
look_due s (TheTuple t) h = h
look_due s (TheNotifier n) h = h
look_due s (HasEnded k l) h = h
look_due s IsRecycled h = h
look_due s IsUnknown h = h

value_due : (s : Plain) (f : Found) → NotDue s → NotDue (value s f).after
value_due s (TheRequest r) h = h
value_due s (TheTuple t) h = h
value_due s (TheNotifier n) h = h
value_due s (HasEnded k l) h = h
value_due s IsRecycled h = h
value_due s IsUnknown h = h

shut_request_due : (now : ℕ) (r : Request) → not (is_due_request now r) ≡ true → not (is_due_request now (shut_request r)) ≡ true
shut_request_due now r h = by_test (is_reserved r.state) (is_parked r.state)
  where
    by_test : (b c : Bool) → not (is_due_request now (cond {A = Request} b (record r { marked = true }) (cond {A = Request} c (in_state (state.Answered out.Canceled) r) r))) ≡ true
    by_test true c = h
    by_test false true = refl
    by_test false false = h

shut_notifier_due : (now until : ℕ) (n : Notifier) → not (is_due_notifier now n) ≡ true → not (is_due_notifier now (shut_notifier until n)) ≡ true
shut_notifier_due now until n h = by_test (is_running n.state)
  where
    by_test : (b : Bool) → not (is_due_notifier now (cond {A = Notifier} b (record n { state = hearing.Closed last.Canceled until }) n)) ≡ true
    by_test true = refl
    by_test false = h

shut_due : (s : Plain) → NotDue s → NotDue (shut s).after
shut_due s h = by_test s.shut
  where
    by_test : (b : Bool) → NotDue (cond {A = Outcome} b (answers s out.NotYet) (answers (shut_down s) out.Plain)).after
    by_test true = h
    by_test false = record {
      tuples = h.tuples;
      requests = all_to_map (λ r. not (is_due_request s.clock r)) (λ r. not (is_due_request s.clock r)) shut_request (shut_request_due s.clock) s.requests h.requests;
      notifiers = all_to_map (λ n. not (is_due_notifier s.clock n)) (λ n. not (is_due_notifier s.clock n)) (shut_notifier (length s.events)) (shut_notifier_due s.clock (length s.events)) s.notifiers h.notifiers;
    }

-- All events.

one_due : (s : Plain) (caller : ℕ) (event : Event) (choice : Option Entry) → NotDue s → OneDue (due_after s event) (outcome s caller event choice).after
one_due s caller (Write v lease) choice h = unless None s _ (still None s h) (write_due s v lease h)
one_due s caller (Reserve k pattern lease) choice h = reserve_due s caller k pattern lease h
one_due s caller (Submit id) choice h = submit_own_due s caller id choice h
one_due s caller (Collect id) choice h = own_due None s caller (λ r. collect s r r.state) (found s id) (λ r _. still None _ (collect_due s r r.state h)) (still None s h)
one_due s caller (Settle id ok) choice h = settle_own_due s caller ok (found s id) h
one_due s caller (Withdraw id) choice h = still None _ (withdraw_due s caller (found s id) h)
one_due s caller (Cancel id) choice h = still None _ (cancel_due s (found s id) h)
one_due s caller (Renew id lease) choice h = renew_due s id _ _ (found s id) refl h
one_due s caller (Look id) choice h = still None _ (look_due s (found s id) h)
one_due s caller (Value id) choice h = still None _ (value_due s (found s id) h)
one_due s caller (ReadAll pattern) choice h = still None s h
one_due s caller (Notify v pattern lease) choice h = notify_due s v pattern lease h
one_due s caller (Pop id) choice h = still None _ (pop_due s (found s id) h)
one_due s caller NextAsk choice h = still None _ (ask_due s (least (askings s)) h)
one_due s caller (Asked id life) choice h = told_due s id (deadline life s.clock) (found s id) refl h
one_due s caller Tick choice h = still None s h
one_due s caller Shut choice h = still None _ (shut_due s h)

pub case_leaves_one_due : (s : Plain) (caller : ℕ) (event : Event) (choice : Option Entry) → nothing_due s ≡ true → due_only (due_after s event) (outcome s caller event choice).after ≡ true
case_leaves_one_due s caller event choice e = let h = one_due s caller event choice (not_due_of s e) in both _ _ h.tuples (both _ _ h.requests h.notifiers)
