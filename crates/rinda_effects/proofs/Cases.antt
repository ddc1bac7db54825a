-- What is touched after each event's own case.
use Rattle.std.proofs.Common.{◌≡◌, ℕ, Bool, true, false, cond, not, ◌&&◌, ◌||◌, List, [], ◌∷◌, Option, Some, None, refl, sym, ◌∙◌, ap, subst, arith}
use Rattle.std.specs.Prelude.{◌==◌, is_none}
use Rattle.std.specs.List.{list_all, list_any}
use Rattle.std.proofs.lemmas.Bool.Decides.{nat_tests}
use Rattle.drb_tree.specs.declared.Tree.{Tree}
use Rattle.drb_tree.specs.declared.Remote.{Remote}
use Rattle.rinda_tuple.specs.declared.tuple.Tuple.{Tuple}
use Rattle.rinda_tuple.specs.declared.tuple.Template.{Template}
use Rattle.rinda_tuple.specs.declared.lease.Lease.{Lease}
use Rattle.rinda_tuple.specs.Lives.{deadline}
use Rattle.rinda_rules.specs.declared.object.Last.{Last}
use Rattle.rinda_rules.specs.declared.object.Last.TheVariants as last
use Rattle.rinda_rules.specs.declared.object.Doubt.{Doubt}
use Rattle.rinda_rules.specs.declared.object.Doubt.TheVariants as doubt
use Rattle.rinda_rules.specs.declared.event.Kind.{Kind}
use Rattle.rinda_rules.specs.declared.event.Kind.TheVariants as kind
use Rattle.rinda_rules.specs.declared.event.Event.{Event}
use Rattle.rinda_rules.specs.declared.event.Event.TheVariants.{Write, Reserve, Submit, Collect, Settle, Withdraw, Cancel, Renew, Look, Value, ReadAll, Notify, Pop, NextAsk, Asked, Tick, Shut}
use Rattle.rinda_rules.specs.declared.out.Out.{Out}
use Rattle.rinda_rules.specs.declared.out.Out.TheVariants as out
use Rattle.rinda_rules.specs.declared.row.RequestState.{RequestState}
use Rattle.rinda_rules.specs.declared.row.RequestState.TheVariants as state
use Rattle.rinda_rules.specs.declared.plain.Entry.{Entry}
use Rattle.rinda_rules.specs.declared.plain.Request.{Request}
use Rattle.rinda_rules.specs.declared.plain.Notifier.{Notifier}
use Rattle.rinda_rules.specs.declared.plain.Hearing.{Hearing}
use Rattle.rinda_rules.specs.declared.plain.Hearing.TheVariants as hearing
use Rattle.rinda_rules.specs.declared.plain.Raised.{Raised}
use Rattle.rinda_rules.specs.Rows.{without, rising}
use Rattle.rinda_rules.specs.Space.{Plain, Found, TheTuple, TheRequest, TheNotifier, HasEnded, IsRecycled, IsUnknown, found, tuple_at, request_at, is_over, is_free, is_live, is_doubted, is_reserved, is_parked, is_waiting, is_read, may_have, has_match, renewer_of}
use Rattle.rinda_rules.specs.Queue.{queue}
use Rattle.rinda_tuple.specs.Tuples.{value_of}
use Rattle.rinda_tuple.specs.Matching.{matches}
use Rattle.rinda_rules.specs.Phases.{in_state, held_by, request_in, request_ended, tuple_ended, served_as, with_tuple, with_request, with_notifier}
use Rattle.rinda_rules.specs.Cases.{Outcome, answers, new_request, unless_shut, renewed_notifier, new_tuple, read_by, minted, written, written_over, write_tuple, write, reserve, on_own, submit, submit_matched, submit_unmatched, collect_served, collect, last_of, settle_tuple, settle, let_go, pop_empty, pop_queue, pop, withdraw_request, withdraw, cancel_tuple, cancel_request, cancel_notifier, cancel, renewed_tuple, renewed_request, renew_request, renew_notifier, renew_with, look, value, Asking, askings, least, asked_doubt, ask, is_asked, told_notifier, told, shut_request, shut_down, shut, notify, outcome}
use Rattle.rinda_rules.specs.Steps.{matched, chooser}
use Rattle.rinda_rules.specs.Sound.{Numbered}
use Rattle.rinda_rules.proofs.Lists.{row_has_id}
use Rattle.rinda_rules.proofs.Finding.{itself-request, found-request}
use Rattle.rinda_rules.proofs.Outcomes.{Chosen}
use Rattle.rinda_effects.specs.Touches.{Touched, NoRow, ATuple, ARequest, wants, only_touched, waits_only, let_go_of, settle_touches, lease_touches, touched_by}
use Rattle.rinda_effects.proofs.Pairs.{pairs_fewer_requests, pairs_fewer_tuples, pairs_more_requests, pairs_more_tuples, pairs_changed_tuple, pairs_changed_request}
use Rattle.rinda_effects.proofs.Kept as kept
use Rattle.rinda_effects.proofs.Kept.{WantsLess, WantedLess, less_request, less_requests, less_tuple, still_touched}

front : (a b : Bool) → (a && b) ≡ true → a ≡ true
front a b e = grind arith

back : (a b : Bool) → (a && b) ≡ true → b ≡ true
back a b e = grind arith

pub rising_tuples : (s : Plain) → Numbered s → rising (λ t. t.id) s.tuples ≡ true
rising_tuples s h = front _ _ h.tuples

pub rising_requests : (s : Plain) → Numbered s → rising (λ r. r.id) s.requests ≡ true
rising_requests s h = front _ _ h.requests

-- Changes.

in_state_less : (now : ℕ) (st : RequestState) → is_parked st ≡ false → WantsLess now (in_state st)
in_state_less now st e r = (refl, λ t h. none (is_parked st) (not (is_doubted r.doubt)) (may_have now r t) (wants now r t) e h)
  where
    none : (p d m w : Bool) → p ≡ false → ((p && d) && m) ≡ true → w ≡ true
    none p d m w e h = grind arith

pub kept-in_state : (touched : Touched) (id : ℕ) (st : RequestState) (s : Plain) → is_parked st ≡ false → waits_only touched s ≡ true → waits_only touched (request_in id st s) ≡ true
kept-in_state touched id st s free e = less_request touched id (in_state st) s (in_state_less s.clock st free) e

pub kept-request_ended : (touched : Touched) (l : Last) (id : ℕ) (s : Plain) → waits_only touched s ≡ true → waits_only touched (request_ended l id s) ≡ true
kept-request_ended touched l id s e = pairs_fewer_requests (only_touched s.clock touched) (λ r. not (r.id == id)) s.requests s.tuples e

pub kept-tuple_ended : (touched : Touched) (l : Last) (t : Entry) (s : Plain) → waits_only touched s ≡ true → waits_only touched (tuple_ended l t s) ≡ true
kept-tuple_ended touched l t s e = pairs_fewer_tuples (only_touched s.clock touched) (λ x. not (x.id == t.id)) s.requests s.tuples e

still_wanted : (a w f l l' k fr : Bool) → l ≡ true → (a || not (w && (f && (l && (k || fr))))) ≡ true → (a || not (w && (f && (l' && (k || false))))) ≡ true
still_wanted a w f l l' k fr e h = grind arith

-- a live tuple that is held from now on is wanted no more than before
pub kept-held : (touched : Touched) (id : ℕ) (t : Entry) (s : Plain) → Numbered s → tuple_at s t.id ≡ Some t → is_live s.clock t ≡ true → waits_only touched s ≡ true → waits_only touched (with_tuple t.id (held_by id) s) ≡ true
kept-held touched id t s numbered there live e =
    pairs_changed_tuple (only_touched s.clock touched) (only_touched s.clock touched) (λ t. t.id) t.id (held_by id) t s.requests s.tuples (rising_tuples s numbered) there
    (λ r h. here touched r h)
    (λ r x ne h. h) e
  where
    here : (touched : Touched) (r : Request) → only_touched s.clock touched r t ≡ true → only_touched s.clock touched r (held_by id t) ≡ true
    here NoRow r h = still_wanted false (is_waiting r) (matches r.pattern t.value) (is_live s.clock t) (is_live s.clock (held_by id t)) (is_read r.kind) (is_free t) live h
    here (ATuple i) r h = still_wanted (t.id == i) (is_waiting r) (matches r.pattern t.value) (is_live s.clock t) (is_live s.clock (held_by id t)) (is_read r.kind) (is_free t) live h
    here (ARequest i) r h = still_wanted (r.id == i) (is_waiting r) (matches r.pattern t.value) (is_live s.clock t) (is_live s.clock (held_by id t)) (is_read r.kind) (is_free t) live h

-- a request that is served wants nothing, and no other wants more
pub kept-served_as : (touched : Touched) (k : Kind) (r : Request) (t : Entry) (s : Plain) → Numbered s → tuple_at s t.id ≡ Some t → is_live s.clock t ≡ true → waits_only touched s ≡ true → waits_only touched (served_as k r t s) ≡ true
kept-served_as touched kind.Read r t s numbered there live e = kept-in_state touched r.id _ s refl e
kept-served_as touched kind.Take r t s numbered there live e = kept-in_state touched r.id _ (tuple_ended last.Taken t s) refl (kept-tuple_ended touched last.Taken t s e)
kept-served_as touched kind.Move r t s numbered there live e = kept-in_state touched r.id _ (with_tuple t.id (held_by r.id) s) refl (kept-held touched r.id t s numbered there live e)

live_of : (f l k : Bool) → (f && (l && k)) ≡ true → l ≡ true
live_of f l k e = grind arith

-- Submit.

unmatched : {T : Type 0} (w : Bool) (m : T → Bool) (ts : List T) → list_any m ts ≡ false → list_all (λ t. false || not (w && m t)) ts ≡ true
unmatched w m [] e = refl
unmatched w m (t ∷ ts) e = grind (arith, unmatched w m ts)

-- a request that has no match waits for nothing that is there
pub kept-parked : (r : Request) (s : Plain) → Numbered s → request_at s r.id ≡ Some r → has_match s r ≡ false → waits_only NoRow s ≡ true → waits_only NoRow (request_in r.id state.Parked s) ≡ true
kept-parked r s numbered there miss e =
    pairs_changed_request (only_touched s.clock NoRow) (only_touched s.clock NoRow) (λ r. r.id) r.id (in_state state.Parked) r s.requests s.tuples (rising_requests s numbered) there
    (unmatched (is_waiting (in_state state.Parked r)) (may_have s.clock r) s.tuples miss)
    (λ x t ne h. h) e

no_match : (s : Plain) (r : Request) (own reserved has : Bool) → own ≡ true → reserved ≡ true → cond {A = Option Request} (own && (reserved && has)) (Some r) None ≡ None → has ≡ false
no_match s r own reserved false e f h = refl
no_match s r true true true e f h = cc
no_match s r false reserved true e f h = cc
no_match s r true false true e f h = cc

submit_unmatched_touches : (s : Plain) (r : Request) → Numbered s → request_at s r.id ≡ Some r → has_match s r ≡ false → waits_only NoRow s ≡ true → waits_only NoRow (submit_unmatched s r).after ≡ true
submit_unmatched_touches s r numbered there miss e = by_tests r.marked (is_over s.clock r.deadline && is_none r.renewer)
  where
    by_tests : (b c : Bool) → waits_only NoRow (cond {A = Outcome} b (answers (request_ended last.Canceled r.id s) out.Canceled) (cond {A = Outcome} c (answers (request_ended last.Expired r.id s) out.Expired) (answers (request_in r.id state.Parked s) (out.Parked r.id)))).after ≡ true
    by_tests true c = kept-request_ended NoRow last.Canceled r.id s e
    by_tests false true = kept-request_ended NoRow last.Expired r.id s e
    by_tests false false = kept-parked r s numbered there miss e

collect_served_touches : (s : Plain) (r : Request) (t : Entry) (k : Kind) → waits_only NoRow s ≡ true → waits_only NoRow (collect_served s r t k).after ≡ true
collect_served_touches s r t kind.Read e = kept-request_ended NoRow last.Done r.id s e
collect_served_touches s r t kind.Take e = kept-request_ended NoRow last.Done r.id s e
collect_served_touches s r t kind.Move e = e

-- what a Submit of that request, with that choice, is given
pub record Choice (s : Plain) (r : Request) (choice : Option Entry) : Type 0 where
  pub here : request_at s r.id ≡ Some r
  pub without : choice ≡ None → r.state ≡ state.Reserved → has_match s r ≡ false
  pub chosen : (t : Entry) → choice ≡ Some t → (tuple_at s t.id ≡ Some t) × (may_have s.clock r t ≡ true)

submit_matched_touches : (s : Plain) (r : Request) (choice : Option Entry) → Numbered s → Choice s r choice → r.state ≡ state.Reserved → waits_only NoRow s ≡ true → waits_only NoRow (submit_matched s r choice).after ≡ true
submit_matched_touches s r None numbered c is e = submit_unmatched_touches s r numbered c.here (c.without refl is) e
submit_matched_touches s r (Some t) numbered c is e =
    collect_served_touches (served_as r.kind r t s) r t r.kind
    (kept-served_as NoRow r.kind r t s numbered ((c.chosen t refl).0) (live_of (matches r.pattern t.value) (is_live s.clock t) (is_read r.kind || is_free t) ((c.chosen t refl).1)) e)

submit_touches : (s : Plain) (r : Request) (choice : Option Entry) (st : RequestState) → r.state ≡ st → Numbered s → Choice s r choice → waits_only NoRow s ≡ true → waits_only NoRow (submit s r choice st).after ≡ true
submit_touches s r choice state.Reserved is numbered c e = submit_matched_touches s r choice numbered c is e
submit_touches s r choice state.Parked is numbered c e = e
submit_touches s r choice (state.Granted t) is numbered c e = e
submit_touches s r choice (state.Answered o) is numbered c e = e

-- Only the caller's own request.
own_touches : (touched : Touched) (s : Plain) (caller : ℕ) (case : Request → Outcome) (f : Found) → ((r : Request) → f ≡ TheRequest r → r.caller == caller ≡ true → waits_only touched (case r).after ≡ true) → waits_only touched s ≡ true → waits_only touched (on_own s caller case f).after ≡ true
own_touches touched s caller case (TheRequest r) h e = by_test (r.caller == caller) refl
  where
    by_test : (b : Bool) → r.caller == caller ≡ b → waits_only touched (cond {A = Outcome} b (case r) (answers s out.WrongKind)).after ≡ true
    by_test true is = h r refl is
    by_test false is = e
own_touches touched s caller case (TheTuple t) h e = e
own_touches touched s caller case (TheNotifier n) h e = e
own_touches touched s caller case (HasEnded k l) h e = e
own_touches touched s caller case IsRecycled h e = e
own_touches touched s caller case IsUnknown h e = e

-- Collect, settle, withdraw, cancel.

collect_touches : (s : Plain) (r : Request) (st : RequestState) → waits_only NoRow s ≡ true → waits_only NoRow (collect s r st).after ≡ true
collect_touches s r state.Reserved e = e
collect_touches s r state.Parked e = e
collect_touches s r (state.Granted t) e = e
collect_touches s r (state.Answered o) e = kept-request_ended NoRow (last_of o) r.id s e

let_go_touches : (s : Plain) (t : Entry) → waits_only NoRow s ≡ true → waits_only (ATuple t.id) (let_go t s) ≡ true
let_go_touches s t e = by_test t.marked
  where
    by_test : (b : Bool) → waits_only (ATuple t.id) (cond {A = Plain} b (tuple_ended last.Canceled t s) (with_tuple t.id (λ t. record t { holder = None }) s)) ≡ true
    by_test true = kept-tuple_ended (ATuple t.id) last.Canceled t s (still_touched (ATuple t.id) s e)
    by_test false = kept.touched_tuple t.id (λ t. record t { holder = None }) s (λ t. refl) e

settle_tuple_touches : (s : Plain) (ok : Bool) (tuple : ℕ) (o : Option Entry) → tuple_at s tuple ≡ o → waits_only NoRow s ≡ true → waits_only (let_go_of ok (state.Granted tuple)) (settle_tuple ok o s) ≡ true
settle_tuple_touches s true tuple None is e = e
settle_tuple_touches s false tuple None is e = still_touched (ATuple tuple) s e
settle_tuple_touches s true tuple (Some t) is e = kept-tuple_ended NoRow last.Taken t s e
settle_tuple_touches s false tuple (Some t) is e = subst (λ (i : ℕ). waits_only (ATuple i) (let_go t s) ≡ true) (row_has_id (λ (t : Entry). t.id) tuple s.tuples t is) (let_go_touches s t e)

settled_row_touches : (s : Plain) (r : Request) (ok : Bool) (st : RequestState) → waits_only NoRow s ≡ true → waits_only (let_go_of ok st) (settle s r ok st).after ≡ true
settled_row_touches s r true state.Reserved e = e
settled_row_touches s r false state.Reserved e = e
settled_row_touches s r true state.Parked e = e
settled_row_touches s r false state.Parked e = e
settled_row_touches s r ok (state.Granted tuple) e = kept-request_ended (let_go_of ok (state.Granted tuple)) last.Done r.id (settle_tuple ok (tuple_at s tuple) s) (settle_tuple_touches s ok tuple (tuple_at s tuple) refl e)
settled_row_touches s r true (state.Answered o) e = e
settled_row_touches s r false (state.Answered o) e = e

settle_own_touches : (s : Plain) (caller : ℕ) (ok : Bool) (f : Found) → waits_only NoRow s ≡ true → waits_only (settle_touches ok f) (on_own s caller (λ r. settle s r ok r.state) f).after ≡ true
settle_own_touches s caller ok (TheRequest r) e = by_test (r.caller == caller)
  where
    by_test : (b : Bool) → waits_only (let_go_of ok r.state) (cond {A = Outcome} b (settle s r ok r.state) (answers s out.WrongKind)).after ≡ true
    by_test true = settled_row_touches s r ok r.state e
    by_test false = still_touched (let_go_of ok r.state) s e
settle_own_touches s caller ok (TheTuple t) e = e
settle_own_touches s caller ok (TheNotifier n) e = e
settle_own_touches s caller ok (HasEnded k l) e = e
settle_own_touches s caller ok IsRecycled e = e
settle_own_touches s caller ok IsUnknown e = e

pop_empty_touches : (s : Plain) (n : Notifier) (o : Out) (st : Hearing) → waits_only NoRow s ≡ true → waits_only NoRow (pop_empty s n o st).after ≡ true
pop_empty_touches s n o hearing.Running e = e
pop_empty_touches s n o (hearing.Closed l until) e = e

pop_queue_touches : (s : Plain) (n : Notifier) (o : Out) (q : List Raised) → waits_only NoRow s ≡ true → waits_only NoRow (pop_queue s n o q).after ≡ true
pop_queue_touches s n o [] e = pop_empty_touches s n o n.state e
pop_queue_touches s n o (x ∷ xs) e = e

pop_touches : (s : Plain) (f : Found) → waits_only NoRow s ≡ true → waits_only NoRow (pop s f).after ≡ true
pop_touches s (TheRequest r) e = e
pop_touches s (TheTuple t) e = e
pop_touches s (TheNotifier n) e = pop_queue_touches s n out.NotYet (queue n s.events) e
pop_touches s (HasEnded k l) e = e
pop_touches s IsRecycled e = e
pop_touches s IsUnknown e = e

withdraw_request_touches : (s : Plain) (r : Request) (st : RequestState) → waits_only NoRow s ≡ true → waits_only NoRow (withdraw_request s r st).after ≡ true
withdraw_request_touches s r state.Reserved e = kept-request_ended NoRow last.Done r.id s e
withdraw_request_touches s r state.Parked e = kept-request_ended NoRow last.Done r.id s e
withdraw_request_touches s r (state.Granted t) e = e
withdraw_request_touches s r (state.Answered o) e = kept-request_ended NoRow (last_of o) r.id s e

withdraw_touches : (s : Plain) (caller : ℕ) (f : Found) → waits_only NoRow s ≡ true → waits_only NoRow (withdraw s caller f).after ≡ true
withdraw_touches s caller (TheRequest r) e = by_test (r.caller == caller)
  where
    by_test : (b : Bool) → waits_only NoRow (cond {A = Outcome} b (withdraw_request s r r.state) (answers s out.WrongKind)).after ≡ true
    by_test true = withdraw_request_touches s r r.state e
    by_test false = e
withdraw_touches s caller (TheTuple t) e = e
withdraw_touches s caller (TheNotifier n) e = pop_queue_touches s n out.WouldWait (queue n s.events) e
withdraw_touches s caller (HasEnded k l) e = e
withdraw_touches s caller IsRecycled e = e
withdraw_touches s caller IsUnknown e = e

marked_less : (now : ℕ) → WantedLess now (λ t. record t { marked = true })
marked_less now t = (refl, λ r. dead (is_waiting r) (matches r.pattern t.value) (not (is_doubted t.doubt) && (not (is_free t) || not (is_over now t.deadline))) (is_read r.kind || is_free t) (wants now r t))
  where
    dead : (w f m k g : Bool) → (w && (f && ((false && m) && k))) ≡ true → g ≡ true
    dead w f m k g e = grind arith

cancel_tuple_touches : (s : Plain) (t : Entry) (h : Option ℕ) → waits_only NoRow s ≡ true → waits_only NoRow (cancel_tuple s t h) ≡ true
cancel_tuple_touches s t None e = kept-tuple_ended NoRow last.Canceled t s e
cancel_tuple_touches s t (Some h) e = less_tuple NoRow t.id (λ t. record t { marked = true }) s (marked_less s.clock) e

cancel_request_touches : (s : Plain) (r : Request) (st : RequestState) → waits_only NoRow s ≡ true → waits_only NoRow (cancel_request s r st) ≡ true
cancel_request_touches s r state.Reserved e = less_request NoRow r.id (λ r. record r { marked = true }) s (λ r. (refl, λ t h. h)) e
cancel_request_touches s r state.Parked e = kept-in_state NoRow r.id (state.Answered out.Canceled) s refl e
cancel_request_touches s r (state.Granted t) e = e
cancel_request_touches s r (state.Answered o) e = e

cancel_notifier_touches : (s : Plain) (n : Notifier) (st : Hearing) → waits_only NoRow s ≡ true → waits_only NoRow (cancel_notifier s n st) ≡ true
cancel_notifier_touches s n hearing.Running e = e
cancel_notifier_touches s n (hearing.Closed l until) e = e

cancel_touches : (s : Plain) (f : Found) → waits_only NoRow s ≡ true → waits_only NoRow (cancel s f).after ≡ true
cancel_touches s (TheRequest r) e = cancel_request_touches s r r.state e
cancel_touches s (TheTuple t) e = cancel_tuple_touches s t t.holder e
cancel_touches s (TheNotifier n) e = cancel_notifier_touches s n n.state e
cancel_touches s (HasEnded k l) e = e
cancel_touches s IsRecycled e = e
cancel_touches s IsUnknown e = e

-- Renew and asked.

renew_request_touches : (s : Plain) (d : Option ℕ) (renewer : Option Remote) (r : Request) (st : RequestState) → waits_only NoRow s ≡ true → waits_only (ARequest r.id) (renew_request s d renewer r st) ≡ true
renew_request_touches s d renewer r state.Reserved e = kept.touched_request r.id (renewed_request d renewer) s (λ r. refl) e
renew_request_touches s d renewer r state.Parked e = kept.touched_request r.id (renewed_request d renewer) s (λ r. refl) e
renew_request_touches s d renewer r (state.Granted t) e = still_touched (ARequest r.id) s e
renew_request_touches s d renewer r (state.Answered o) e = still_touched (ARequest r.id) s e

renew_notifier_touches : (s : Plain) (d : Option ℕ) (renewer : Option Remote) (n : Notifier) (st : Hearing) → waits_only NoRow s ≡ true → waits_only NoRow (renew_notifier s d renewer n st) ≡ true
renew_notifier_touches s d renewer n hearing.Running e = e
renew_notifier_touches s d renewer n (hearing.Closed l until) e = e

renew_touches : (s : Plain) (d : Option ℕ) (renewer : Option Remote) (f : Found) → waits_only NoRow s ≡ true → waits_only (lease_touches f) (renew_with s d renewer f).after ≡ true
renew_touches s d renewer (TheRequest r) e = renew_request_touches s d renewer r r.state e
renew_touches s d renewer (TheTuple t) e = kept.touched_tuple t.id (renewed_tuple d renewer) s (λ t. refl) e
renew_touches s d renewer (TheNotifier n) e = renew_notifier_touches s d renewer n n.state e
renew_touches s d renewer (HasEnded k l) e = e
renew_touches s d renewer IsRecycled e = e
renew_touches s d renewer IsUnknown e = e

told_notifier_touches : (s : Plain) (d : Option ℕ) (n : Notifier) → waits_only NoRow s ≡ true → waits_only NoRow (told_notifier s d n) ≡ true
told_notifier_touches s d n e = by_test (is_asked n.doubt)
  where
    by_test : (b : Bool) → waits_only NoRow (cond {A = Plain} b (with_notifier n.id (renewed_notifier d (renewer_of d n.renewer s.clock)) s) s) ≡ true
    by_test true = e
    by_test false = e

told_touches : (s : Plain) (d : Option ℕ) (f : Found) → waits_only NoRow s ≡ true → waits_only (lease_touches f) (told s d f).after ≡ true
told_touches s d (TheRequest r) e = by_test (is_asked r.doubt)
  where
    by_test : (b : Bool) → waits_only (ARequest r.id) (cond {A = Plain} b (with_request r.id (renewed_request d (renewer_of d r.renewer s.clock)) s) s) ≡ true
    by_test true = kept.touched_request r.id (renewed_request d (renewer_of d r.renewer s.clock)) s (λ r. refl) e
    by_test false = still_touched (ARequest r.id) s e
told_touches s d (TheTuple t) e = by_test (is_asked t.doubt)
  where
    by_test : (b : Bool) → waits_only (ATuple t.id) (cond {A = Plain} b (with_tuple t.id (renewed_tuple d (renewer_of d t.renewer s.clock)) s) s) ≡ true
    by_test true = kept.touched_tuple t.id (renewed_tuple d (renewer_of d t.renewer s.clock)) s (λ t. refl) e
    by_test false = still_touched (ATuple t.id) s e
told_touches s d (TheNotifier n) e = told_notifier_touches s d n e
told_touches s d (HasEnded k l) e = e
told_touches s d IsRecycled e = e
told_touches s d IsUnknown e = e

-- NextAsk.

asked_doubt_same : (d : Doubt) → is_doubted (asked_doubt d) ≡ is_doubted d
asked_doubt_same doubt.No = refl
asked_doubt_same doubt.Waiting = refl
asked_doubt_same doubt.Asked = refl

asked_request_less : (now : ℕ) → WantsLess now (λ r. record r { doubt = asked_doubt r.doubt })
asked_request_less now r = (refl, λ t h. same (is_parked r.state) (is_doubted r.doubt) (is_doubted (asked_doubt r.doubt)) (may_have now r t) (asked_doubt_same r.doubt) h)
  where
    same : (p d d' m : Bool) → d' ≡ d → ((p && not d') && m) ≡ true → ((p && not d) && m) ≡ true
    same p d d' m e h = grind arith

asked_tuple_less : (now : ℕ) → WantedLess now (λ t. record t { doubt = asked_doubt t.doubt })
asked_tuple_less now t = (refl, λ r h. same (is_waiting r) (matches r.pattern t.value) (not t.marked) (is_doubted t.doubt) (is_doubted (asked_doubt t.doubt)) (not (is_free t) || not (is_over now t.deadline)) (is_read r.kind || is_free t) (asked_doubt_same t.doubt) h)
  where
    same : (w f m d d' o k : Bool) → d' ≡ d → (w && (f && ((m && (not d' && o)) && k))) ≡ true → (w && (f && ((m && (not d && o)) && k))) ≡ true
    same w f m d d' o k e h = grind arith

ask_touches : (s : Plain) (a : Option Asking) → waits_only NoRow s ≡ true → waits_only NoRow (ask s a).after ≡ true
ask_touches s None e = e
ask_touches s (Some a) e =
    let n : Plain = with_notifier a.id (λ n. record n { doubt = asked_doubt n.doubt }) s in
    let r : Plain = with_request a.id (λ r. record r { doubt = asked_doubt r.doubt }) n in
    less_tuple NoRow a.id (λ t. record t { doubt = asked_doubt t.doubt }) r (asked_tuple_less s.clock)
    (less_request NoRow a.id (λ r. record r { doubt = asked_doubt r.doubt }) n (asked_request_less s.clock) e)

-- Write, reserve and notify.

read_by_less : (now : ℕ) (value : Tuple) → WantsLess now (read_by value)
read_by_less now value r = by_test (is_read r.kind && (is_waiting r && matches r.pattern value))
  where
    by_test : (b : Bool) → let q : Request = cond b (in_state (state.Answered (out.Answer (value_of value))) r) r in (q.id ≡ r.id) × ((t : Entry) → wants now q t ≡ true → wants now r t ≡ true)
    by_test true = in_state_less now (state.Answered (out.Answer (value_of value))) refl r
    by_test false = (refl, λ t h. h)

written_touches : (s : Plain) (t : Entry) → waits_only NoRow s ≡ true → waits_only (ATuple t.id) (written t s) ≡ true
written_touches s t e =
    pairs_more_tuples (only_touched s.clock (ATuple t.id)) t (λ r. itself (t.id == t.id) (not (wants s.clock r t)) (grind (arith, nat_tests))) s.requests s.tuples (still_touched (ATuple t.id) s e)
  where
    itself : (a w : Bool) → a ≡ true → (a || w) ≡ true
    itself a w e = grind arith

unless_shut_touches : (touched : Touched) (s : Plain) (case : Outcome) → waits_only touched s ≡ true → waits_only touched case.after ≡ true → waits_only touched (unless_shut s case).after ≡ true
unless_shut_touches touched s case e h = by_test s.shut
  where
    by_test : (b : Bool) → waits_only touched (cond {A = Outcome} b (answers s out.Shut) case).after ≡ true
    by_test true = e
    by_test false = h

write_tuple_touches : (s : Plain) (v : Tuple) (lease : Lease) → waits_only NoRow s ≡ true → waits_only (ATuple s.next) (write_tuple s (new_tuple s v lease)) ≡ true
write_tuple_touches s v lease e = by_test (is_over s.clock (deadline lease.life s.clock))
  where
    by_test : (b : Bool) → waits_only (ATuple s.next) (cond {A = Plain} b (written_over (new_tuple s v lease) (minted s)) (written (new_tuple s v lease) (minted s))) ≡ true
    by_test true = still_touched (ATuple s.next) (written_over (new_tuple s v lease) (minted s)) (less_requests s.clock NoRow (read_by v) (read_by_less s.clock v) s.requests s.tuples e)
    by_test false = written_touches (minted s) (new_tuple s v lease) e

write_touches : (s : Plain) (v : Tuple) (lease : Lease) → waits_only NoRow s ≡ true → waits_only (ATuple s.next) (write s v lease).after ≡ true
write_touches s v lease e = unless_shut_touches (ATuple s.next) s _ (still_touched (ATuple s.next) s e) (write_tuple_touches s v lease e)

reserve_touches : (s : Plain) (caller : ℕ) (k : Kind) (pattern : Template) (lease : Lease) → waits_only NoRow s ≡ true → waits_only NoRow (reserve s caller k pattern lease).after ≡ true
reserve_touches s caller k pattern lease e = unless_shut_touches NoRow s _ e (pairs_more_requests (only_touched s.clock NoRow) (new_request s caller k pattern lease) (λ t. refl) s.requests s.tuples e)

notify_touches : (s : Plain) (v : Tree) (pattern : Template) (lease : Lease) → waits_only NoRow s ≡ true → waits_only NoRow (notify s v pattern lease).after ≡ true
notify_touches s v pattern lease e = unless_shut_touches NoRow s _ e e

-- Shut.

shut_less : (now : ℕ) → WantsLess now shut_request
shut_less now r = by_test (is_reserved r.state) (is_parked r.state)
  where
    by_test : (b c : Bool) → let q : Request = cond b (record r { marked = true }) (cond c (in_state (state.Answered out.Canceled) r) r) in (q.id ≡ r.id) × ((t : Entry) → wants now q t ≡ true → wants now r t ≡ true)
    by_test true c = (refl, λ t h. h)
    by_test false true = in_state_less now (state.Answered out.Canceled) refl r
    by_test false false = (refl, λ t h. h)

shut_touches : (s : Plain) → waits_only NoRow s ≡ true → waits_only NoRow (shut s).after ≡ true
shut_touches s e = by_test s.shut
  where
    by_test : (b : Bool) → waits_only NoRow (cond {A = Outcome} b (answers s out.NotYet) (answers (shut_down s) out.Plain)).after ≡ true
    by_test true = e
    by_test false = less_requests s.clock NoRow shut_request (shut_less s.clock) s.requests s.tuples e

look_touches : (s : Plain) (f : Found) → waits_only NoRow s ≡ true → waits_only NoRow (look s f).after ≡ true
look_touches s (TheRequest r) e = e
look_touches s (TheTuple t) e = e
look_touches s (TheNotifier n) e = e
look_touches s (HasEnded k l) e = e
look_touches s IsRecycled e = e
look_touches s IsUnknown e = e

value_touches : (s : Plain) (f : Found) → waits_only NoRow s ≡ true → waits_only NoRow (value s f).after ≡ true
value_touches s (TheRequest r) e = e
value_touches s (TheTuple t) e = e
value_touches s (TheNotifier n) e = e
value_touches s (HasEnded k l) e = e
value_touches s IsRecycled e = e
value_touches s IsUnknown e = e

-- All events: with the choice that the event's own case was given.

submit_own_touches : (s : Plain) (caller id : ℕ) (choice : Option Entry) → Numbered s → Chosen s (Submit id) choice → (choice ≡ None → chooser s caller (Submit id) ≡ None) → waits_only NoRow s ≡ true → waits_only NoRow (on_own s caller (λ r. submit s r choice r.state) (found s id)).after ≡ true
submit_own_touches s caller id choice numbered chosen without e =
    own_touches NoRow s caller (λ r. submit s r choice r.state) (found s id) (λ r is own. submit_touches s r choice r.state refl numbered (given r is own) e) e
  where
    given : (r : Request) → found s id ≡ TheRequest r → r.caller == caller ≡ true → Choice s r choice
    given r is own =
        let there : request_at s id ≡ Some r = found-request s id r is in
        record {
          here = itself-request s id r there;
          without = λ none reserved. no_match s r (r.caller == caller) (is_reserved r.state) (has_match s r) own (ap is_reserved reserved) (ap (matched s caller) (sym is) ∙ without none);
          chosen = λ t c. ((chosen t c).0, (chosen t c).1 r (ap Submit (sym (row_has_id (λ (r : Request). r.id) id s.requests r there))) (itself-request s id r there));
        }

pub outcome_touches : (s : Plain) (caller : ℕ) (event : Event) (choice : Option Entry) → Numbered s → Chosen s event choice → (choice ≡ None → chooser s caller event ≡ None) → waits_only NoRow s ≡ true → waits_only (touched_by s event) (outcome s caller event choice).after ≡ true
outcome_touches s caller (Write v lease) choice numbered chosen without e = write_touches s v lease e
outcome_touches s caller (Reserve k pattern lease) choice numbered chosen without e = reserve_touches s caller k pattern lease e
outcome_touches s caller (Submit id) choice numbered chosen without e = submit_own_touches s caller id choice numbered chosen without e
outcome_touches s caller (Collect id) choice numbered chosen without e = own_touches NoRow s caller (λ r. collect s r r.state) (found s id) (λ r is own. collect_touches s r r.state e) e
outcome_touches s caller (Settle id ok) choice numbered chosen without e = settle_own_touches s caller ok (found s id) e
outcome_touches s caller (Withdraw id) choice numbered chosen without e = withdraw_touches s caller (found s id) e
outcome_touches s caller (Cancel id) choice numbered chosen without e = cancel_touches s (found s id) e
outcome_touches s caller (Renew id lease) choice numbered chosen without e = renew_touches s (deadline lease.life s.clock) (renewer_of (deadline lease.life s.clock) lease.renewer s.clock) (found s id) e
outcome_touches s caller (Look id) choice numbered chosen without e = look_touches s (found s id) e
outcome_touches s caller (Value id) choice numbered chosen without e = value_touches s (found s id) e
outcome_touches s caller (ReadAll pattern) choice numbered chosen without e = e
outcome_touches s caller (Notify v pattern lease) choice numbered chosen without e = notify_touches s v pattern lease e
outcome_touches s caller (Pop id) choice numbered chosen without e = pop_touches s (found s id) e
outcome_touches s caller NextAsk choice numbered chosen without e = ask_touches s (least (askings s)) e
outcome_touches s caller (Asked id life) choice numbered chosen without e = told_touches s (deadline life s.clock) (found s id) e
outcome_touches s caller Tick choice numbered chosen without e = e
outcome_touches s caller Shut choice numbered chosen without e = shut_touches s e
