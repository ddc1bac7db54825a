-- Which answers each event's own case may give.
use Rattle.std.proofs.Common.{◌≡◌, ℕ, Bool, true, false, cond, ◌&&◌, ◌||◌, List, [], ◌∷◌, Option, Some, None, refl, ap, arith}
use Rattle.std.specs.Prelude.{◌==◌, is_none}
use Rattle.std.specs.List.{list_all}
use Rattle.rinda_rules.specs.declared.object.ObjectKind.TheVariants as object
use Rattle.rinda_rules.specs.declared.object.Last.TheVariants as last
use Rattle.rinda_rules.specs.declared.event.Kind.{Kind}
use Rattle.rinda_rules.specs.declared.event.Kind.TheVariants as kind
use Rattle.rinda_rules.specs.declared.event.Event.{Event}
use Rattle.rinda_rules.specs.declared.event.Event.TheVariants.{Write, Reserve, Submit, Collect, Settle, Withdraw, Cancel, Renew, Look, Value, ReadAll, Notify, Pop, NextAsk, Asked, Tick, Shut}
use Rattle.rinda_rules.specs.declared.out.Out.{Out}
use Rattle.rinda_rules.specs.declared.out.Out.TheVariants as out
use Rattle.rinda_rules.specs.declared.row.RequestState.{RequestState}
use Rattle.rinda_rules.specs.declared.row.RequestState.TheVariants as state
use Rattle.rinda_rules.specs.declared.plain.Entry.{Entry}
use Rattle.rinda_rules.specs.declared.plain.Request.{Request}
use Rattle.rinda_rules.specs.declared.plain.Notifier.{Notifier}
use Rattle.rinda_rules.specs.declared.plain.Hearing.{Hearing}
use Rattle.rinda_rules.specs.declared.plain.Hearing.TheVariants as hearing
use Rattle.rinda_rules.specs.declared.plain.Raised.{Raised}
use Rattle.rinda_rules.specs.Space.{Plain, Found, TheTuple, TheRequest, TheNotifier, HasEnded, IsRecycled, IsUnknown, found, is_over}
use Rattle.rinda_rules.specs.Queue.{queue}
use Rattle.rinda_rules.specs.Phases.{request_in, request_ended}
use Rattle.rinda_rules.specs.Cases.{Outcome, answers, unless_shut, on_own, submit, submit_matched, submit_unmatched, collect_served, collect, settle, withdraw_request, withdraw, pop_empty, pop_queue, pop, cancel, renew_with, look, value, Asking, askings, least, ask, told, shut, shut_down, outcome}
use Rattle.rinda_rules.specs.Sound.{is_kept_answer, has_answer}
use Rattle.rinda_rules.proofs.Lists.{all_at}
use Rattle.rinda_rules.proofs.Finding.{found-request}
use Rattle.rinda_effects.specs.Answers.{is_refusal, is_gone, submit_answers, collect_answers, plain_answers, withdraw_answers, look_answers, value_answers, pop_answers, next_ask_answers, shut_answers, may_answer}

or_left : (a b : Bool) → a ≡ true → (a || b) ≡ true
or_left a b e = grind arith

pub unless_shut_answers : (p : Out → Bool) (s : Plain) (case : Outcome) → p out.Shut ≡ true → p case.out ≡ true → p (unless_shut s case).out ≡ true
unless_shut_answers p s case e h = by_test s.shut
  where
    by_test : (b : Bool) → p (cond {A = Outcome} b (answers s out.Shut) case).out ≡ true
    by_test true = e
    by_test false = h

-- only the caller's own request answers anything but a refusal
own_answers : (p : Out → Bool) (s : Plain) (caller : ℕ) (case : Request → Outcome) (f : Found) → ((r : Request) → f ≡ TheRequest r → (p (case r).out || is_refusal (case r).out) ≡ true) → p out.WrongKind ≡ false → p out.Recycled ≡ false → p out.Unknown ≡ false → (p (on_own s caller case f).out || is_refusal (on_own s caller case f).out) ≡ true
own_answers p s caller case (TheRequest r) h a b c = by_test (r.caller == caller)
  where
    by_test : (q : Bool) → (p (cond {A = Outcome} q (case r) (answers s out.WrongKind)).out || is_refusal (cond {A = Outcome} q (case r) (answers s out.WrongKind)).out) ≡ true
    by_test true = h r refl
    by_test false = ap (λ (x : Bool). x || true) a
own_answers p s caller case (TheTuple t) h a b c = ap (λ (x : Bool). x || true) a
own_answers p s caller case (TheNotifier n) h a b c = ap (λ (x : Bool). x || true) a
own_answers p s caller case (HasEnded k l) h a b c = ap (λ (x : Bool). x || true) a
own_answers p s caller case IsRecycled h a b c = ap (λ (x : Bool). x || true) b
own_answers p s caller case IsUnknown h a b c = ap (λ (x : Bool). x || true) c

-- Submit.

unmatched_answers : (s : Plain) (r : Request) → submit_answers (submit_unmatched s r).out ≡ true
unmatched_answers s r = by_tests r.marked (is_over s.clock r.deadline && is_none r.renewer)
  where
    by_tests : (b c : Bool) → submit_answers (cond {A = Outcome} b (answers (request_ended last.Canceled r.id s) out.Canceled) (cond {A = Outcome} c (answers (request_ended last.Expired r.id s) out.Expired) (answers (request_in r.id state.Parked s) (out.Parked r.id)))).out ≡ true
    by_tests true c = refl
    by_tests false true = refl
    by_tests false false = refl

served_answers : (s : Plain) (r : Request) (t : Entry) (k : Kind) → submit_answers (collect_served s r t k).out ≡ true
served_answers s r t kind.Read = refl
served_answers s r t kind.Take = refl
served_answers s r t kind.Move = refl

matched_answers : (s : Plain) (r : Request) (choice : Option Entry) → submit_answers (submit_matched s r choice).out ≡ true
matched_answers s r None = unmatched_answers s r
matched_answers s r (Some t) = served_answers (Rattle.rinda_rules.specs.Phases.served_with r t s) r t r.kind

submitted_answers : (s : Plain) (r : Request) (choice : Option Entry) (st : RequestState) → (submit_answers (submit s r choice st).out || is_refusal (submit s r choice st).out) ≡ true
submitted_answers s r choice state.Reserved = or_left _ _ (matched_answers s r choice)
submitted_answers s r choice state.Parked = refl
submitted_answers s r choice (state.Granted t) = refl
submitted_answers s r choice (state.Answered o) = refl

-- Collect, settle, withdraw.

kept_collect : (o : Out) → is_kept_answer o ≡ true → (collect_answers o || is_refusal o) ≡ true
kept_collect (out.Answer v) e = refl
kept_collect out.Expired e = refl
kept_collect out.Canceled e = refl
kept_collect (out.Entry i) e = cc
kept_collect (out.Reserved i) e = cc
kept_collect (out.Parked i) e = cc
kept_collect (out.Granted i v) e = refl
kept_collect (out.All vs) e = cc
kept_collect (out.Notifier i) e = cc
kept_collect (out.Event v) e = cc
kept_collect out.Closed e = cc
kept_collect out.WouldWait e = cc
kept_collect out.NotYet e = refl
kept_collect (out.State f) e = cc
kept_collect (out.Ask i r) e = cc
kept_collect out.Plain e = cc
kept_collect out.Recycled e = refl
kept_collect out.Unknown e = refl
kept_collect out.WrongKind e = refl
kept_collect out.Shut e = cc

kept_withdraw : (o : Out) → is_kept_answer o ≡ true → (withdraw_answers o || is_refusal o) ≡ true
kept_withdraw (out.Answer v) e = refl
kept_withdraw out.Expired e = refl
kept_withdraw out.Canceled e = refl
kept_withdraw (out.Entry i) e = cc
kept_withdraw (out.Reserved i) e = cc
kept_withdraw (out.Parked i) e = cc
kept_withdraw (out.Granted i v) e = refl
kept_withdraw (out.All vs) e = cc
kept_withdraw (out.Notifier i) e = cc
kept_withdraw (out.Event v) e = refl
kept_withdraw out.Closed e = refl
kept_withdraw out.WouldWait e = refl
kept_withdraw out.NotYet e = cc
kept_withdraw (out.State f) e = cc
kept_withdraw (out.Ask i r) e = cc
kept_withdraw out.Plain e = refl
kept_withdraw out.Recycled e = refl
kept_withdraw out.Unknown e = refl
kept_withdraw out.WrongKind e = refl
kept_withdraw out.Shut e = cc

collected_answers : (s : Plain) (r : Request) (st : RequestState) → has_answer st ≡ true → (collect_answers (collect s r st).out || is_refusal (collect s r st).out) ≡ true
collected_answers s r state.Reserved e = refl
collected_answers s r state.Parked e = refl
collected_answers s r (state.Granted t) e = refl
collected_answers s r (state.Answered o) e = kept_collect o e

settled_answers : (s : Plain) (r : Request) (ok : Bool) (st : RequestState) → (plain_answers (settle s r ok st).out || is_refusal (settle s r ok st).out) ≡ true
settled_answers s r ok state.Reserved = refl
settled_answers s r ok state.Parked = refl
settled_answers s r ok (state.Granted t) = refl
settled_answers s r ok (state.Answered o) = refl

withdrawn_answers : (s : Plain) (r : Request) (st : RequestState) → has_answer st ≡ true → (withdraw_answers (withdraw_request s r st).out || is_refusal (withdraw_request s r st).out) ≡ true
withdrawn_answers s r state.Reserved e = refl
withdrawn_answers s r state.Parked e = refl
withdrawn_answers s r (state.Granted t) e = refl
withdrawn_answers s r (state.Answered o) e = kept_withdraw o e

-- Pop.

empty_answers : (p : Out → Bool) (s : Plain) (n : Notifier) (o : Out) (st : Hearing) → p o ≡ true → p out.Closed ≡ true → p (pop_empty s n o st).out ≡ true
empty_answers p s n o hearing.Running a b = a
empty_answers p s n o (hearing.Closed l until) a b = b

queue_answers : (p : Out → Bool) (s : Plain) (n : Notifier) (o : Out) (q : List Raised) → p o ≡ true → p out.Closed ≡ true → ((v : Rattle.drb_tree.specs.declared.Tree.Tree) → p (out.Event v) ≡ true) → p (pop_queue s n o q).out ≡ true
queue_answers p s n o [] a b c = empty_answers p s n o n.state a b
queue_answers p s n o (x ∷ xs) a b c = c _

popped_answers : (s : Plain) (f : Found) → (pop_answers (pop s f).out || is_refusal (pop s f).out) ≡ true
popped_answers s (TheRequest r) = refl
popped_answers s (TheTuple t) = refl
popped_answers s (TheNotifier n) = or_left _ _ (queue_answers pop_answers s n out.NotYet (queue n s.events) refl refl (λ v. refl))
popped_answers s (HasEnded object.Entry l) = refl
popped_answers s (HasEnded object.Request l) = refl
popped_answers s (HasEnded object.Notifier l) = refl
popped_answers s IsRecycled = refl
popped_answers s IsUnknown = refl

withdraw_own_answers : (s : Plain) (caller : ℕ) (f : Found) → ((r : Request) → f ≡ TheRequest r → has_answer r.state ≡ true) → (withdraw_answers (withdraw s caller f).out || is_refusal (withdraw s caller f).out) ≡ true
withdraw_own_answers s caller (TheRequest r) h = by_test (r.caller == caller)
  where
    by_test : (b : Bool) → (withdraw_answers (cond {A = Outcome} b (withdraw_request s r r.state) (answers s out.WrongKind)).out || is_refusal (cond {A = Outcome} b (withdraw_request s r r.state) (answers s out.WrongKind)).out) ≡ true
    by_test true = withdrawn_answers s r r.state (h r refl)
    by_test false = refl
withdraw_own_answers s caller (TheTuple t) h = refl
withdraw_own_answers s caller (TheNotifier n) h = or_left _ _ (queue_answers withdraw_answers s n out.WouldWait (queue n s.events) refl refl (λ v. refl))
withdraw_own_answers s caller (HasEnded object.Entry l) h = refl
withdraw_own_answers s caller (HasEnded object.Request l) h = refl
withdraw_own_answers s caller (HasEnded object.Notifier l) h = refl
withdraw_own_answers s caller IsRecycled h = refl
withdraw_own_answers s caller IsUnknown h = refl

-- Cancel, renew, look, value, asked, the next to ask, shut.

cancel_answers : (s : Plain) (f : Found) → (plain_answers (cancel s f).out || is_gone (cancel s f).out) ≡ true
cancel_answers s (TheRequest r) = refl
cancel_answers s (TheTuple t) = refl
cancel_answers s (TheNotifier n) = refl
cancel_answers s (HasEnded k l) = refl
cancel_answers s IsRecycled = refl
cancel_answers s IsUnknown = refl

renew_answers : (s : Plain) (d : Option ℕ) (renewer : Option Rattle.drb_tree.specs.declared.Remote.Remote) (f : Found) → (plain_answers (renew_with s d renewer f).out || is_gone (renew_with s d renewer f).out) ≡ true
renew_answers s d renewer (TheRequest r) = refl
renew_answers s d renewer (TheTuple t) = refl
renew_answers s d renewer (TheNotifier n) = refl
renew_answers s d renewer (HasEnded k l) = refl
renew_answers s d renewer IsRecycled = refl
renew_answers s d renewer IsUnknown = refl

looked_answers : (s : Plain) (f : Found) → (look_answers (look s f).out || is_gone (look s f).out) ≡ true
looked_answers s (TheRequest r) = refl
looked_answers s (TheTuple t) = refl
looked_answers s (TheNotifier n) = refl
looked_answers s (HasEnded k l) = refl
looked_answers s IsRecycled = refl
looked_answers s IsUnknown = refl

valued_answers : (s : Plain) (f : Found) → (value_answers (value s f).out || is_refusal (value s f).out) ≡ true
valued_answers s (TheRequest r) = refl
valued_answers s (TheTuple t) = refl
valued_answers s (TheNotifier n) = refl
valued_answers s (HasEnded object.Entry l) = refl
valued_answers s (HasEnded object.Request l) = refl
valued_answers s (HasEnded object.Notifier l) = refl
valued_answers s IsRecycled = refl
valued_answers s IsUnknown = refl

told_answers : (s : Plain) (d : Option ℕ) (f : Found) → (plain_answers (told s d f).out || is_gone (told s d f).out) ≡ true
told_answers s d (TheRequest r) = refl
told_answers s d (TheTuple t) = refl
told_answers s d (TheNotifier n) = refl
told_answers s d (HasEnded k l) = refl
told_answers s d IsRecycled = refl
told_answers s d IsUnknown = refl

ask_answers : (s : Plain) (a : Option Asking) → next_ask_answers (ask s a).out ≡ true
ask_answers s None = refl
ask_answers s (Some a) = refl

shut_down_answers : (s : Plain) → shut_answers (shut s).out ≡ true
shut_down_answers s = by_test s.shut
  where
    by_test : (b : Bool) → shut_answers (cond {A = Outcome} b (answers s out.NotYet) (answers (shut_down s) out.Plain)).out ≡ true
    by_test true = refl
    by_test false = refl

-- All events.

pub has_answer_at : (s : Plain) (id : ℕ) → list_all (λ r. has_answer r.state) s.requests ≡ true → (r : Request) → found s id ≡ TheRequest r → has_answer r.state ≡ true
has_answer_at s id e r is = all_at (λ r. has_answer r.state) (λ r. r.id) id s.requests r (found-request s id r is) e

pub case_answers : (s : Plain) (caller : ℕ) (event : Event) (choice : Option Entry) → list_all (λ r. has_answer r.state) s.requests ≡ true → may_answer event (outcome s caller event choice).out ≡ true
case_answers s caller (Write v lease) choice e = unless_shut_answers Rattle.rinda_effects.specs.Answers.write_answers s _ refl refl
case_answers s caller (Reserve k pattern lease) choice e = unless_shut_answers Rattle.rinda_effects.specs.Answers.reserve_answers s _ refl refl
case_answers s caller (Submit id) choice e = own_answers submit_answers s caller (λ r. submit s r choice r.state) (found s id) (λ r _. submitted_answers s r choice r.state) refl refl refl
case_answers s caller (Collect id) choice e = own_answers collect_answers s caller (λ r. collect s r r.state) (found s id) (λ r is. collected_answers s r r.state (has_answer_at s id e r is)) refl refl refl
case_answers s caller (Settle id ok) choice e = own_answers plain_answers s caller (λ r. settle s r ok r.state) (found s id) (λ r _. settled_answers s r ok r.state) refl refl refl
case_answers s caller (Withdraw id) choice e = withdraw_own_answers s caller (found s id) (has_answer_at s id e)
case_answers s caller (Cancel id) choice e = cancel_answers s (found s id)
case_answers s caller (Renew id lease) choice e = renew_answers s _ _ (found s id)
case_answers s caller (Look id) choice e = looked_answers s (found s id)
case_answers s caller (Value id) choice e = valued_answers s (found s id)
case_answers s caller (ReadAll pattern) choice e = refl
case_answers s caller (Notify v pattern lease) choice e = unless_shut_answers Rattle.rinda_effects.specs.Answers.notify_answers s _ refl refl
case_answers s caller (Pop id) choice e = popped_answers s (found s id)
case_answers s caller NextAsk choice e = ask_answers s (least (askings s))
case_answers s caller (Asked id life) choice e = told_answers s _ (found s id)
case_answers s caller Tick choice e = refl
case_answers s caller Shut choice e = shut_down_answers s
