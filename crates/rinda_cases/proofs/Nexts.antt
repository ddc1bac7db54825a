-- A step gives out at most one id.
use Rattle.std.proofs.Common.{◌≡◌, ◌∙◌, ℕ, zero, suc, ◌+◌, ◌≤◌, Bool, true, false, List, [], ◌∷◌, length, Option, Some, None, refl, sym, ap, subst, arith}
use Rattle.std.specs.Prelude.{◌&&◌, ◌==◌, is_none, if◌then◌else◌}
use Rattle.drb_tree.specs.declared.Tree.{Tree}
use Rattle.drb_tree.specs.declared.Remote.{Remote}
use Rattle.rinda_tuple.specs.declared.tuple.Tuple.{Tuple}
use Rattle.rinda_tuple.specs.declared.tuple.Template.{Template}
use Rattle.rinda_tuple.specs.declared.lease.Lease.{Lease}
use Rattle.rinda_tuple.specs.Lives.{deadline}
use Rattle.rinda_rules.specs.declared.object.Last.TheVariants as last
use Rattle.rinda_rules.specs.declared.event.Kind.{Kind}
use Rattle.rinda_rules.specs.declared.event.Kind.TheVariants as kind
use Rattle.rinda_rules.specs.declared.event.Event.{Event}
use Rattle.rinda_rules.specs.declared.event.Event.TheVariants.{Write, Reserve, Submit, Collect, Settle, Withdraw, Cancel, Renew, Look, Value, ReadAll, Notify, Pop, NextAsk, Asked, Tick, Shut}
use Rattle.rinda_rules.specs.declared.out.Out.{Out}
use Rattle.rinda_rules.specs.declared.out.Out.TheVariants as out
use Rattle.rinda_rules.specs.declared.turn.Pick.{Pick}
use Rattle.rinda_rules.specs.declared.row.RequestState.{RequestState}
use Rattle.rinda_rules.specs.declared.row.RequestState.TheVariants as state
use Rattle.rinda_rules.specs.declared.plain.Entry.{Entry}
use Rattle.rinda_rules.specs.declared.plain.Request.{Request}
use Rattle.rinda_rules.specs.declared.plain.Notifier.{Notifier}
use Rattle.rinda_rules.specs.declared.plain.Hearing.{Hearing}
use Rattle.rinda_rules.specs.declared.plain.Hearing.TheVariants as hearing
use Rattle.rinda_rules.specs.declared.plain.Raised.{Raised}
use Rattle.rinda_rules.specs.Space.{Plain, Found, TheTuple, TheRequest, TheNotifier, HasEnded, IsRecycled, IsUnknown, found, request_at, tuple_at, is_over, renewer_of, is_due_tuple, is_due_request, is_due_notifier}
use Rattle.rinda_rules.specs.Queue.{queue}
use Rattle.rinda_rules.specs.Phases.{advanced, aged, aged_below, age_found, age_tuple, age_request, age_notifier, with_tuple, with_request, with_notifier, request_in, tuple_ended, request_ended, close_after, doubt_tuple, doubt_request, doubt_notifier, served, served_as, served_with, served_rows, Serve}
use Rattle.rinda_rules.specs.Cases.{Outcome, outcome, answers, new_tuple, minted, written, written_over, write_tuple, write, reserve, on_own, submit_unmatched, submit_matched, submit, collect_served, collect, settle_tuple, settle, pop_empty, pop_queue, pop, withdraw_request, withdraw, cancel_tuple, cancel_request, cancel_notifier, cancel, renewed_tuple, renewed_request, renewed_notifier, renew_request, renew_notifier, renew_with, look, value, notify, Asking, askings, least, ask, is_asked, told, shut_down, shut}
use Rattle.rinda_rules.specs.Steps.{Step, Case, chooser, found_by}

-- One of two.

either-next : (b : Bool) (x y : Plain) (n : ℕ) → x.next ≡ n → y.next ≡ n → (if b then x else y).next ≡ n
either-next true x y n e f = e
either-next false x y n e f = f

either-case : (b : Bool) (x y : Outcome) (n : ℕ) → x.after.next ≡ n → y.after.next ≡ n → (if b then x else y).after.next ≡ n
either-case true x y n e f = e
either-case false x y n e f = f

none-given : (n : ℕ) → n ≤ n + 1
none-given n = omega arith

most-of : (m n : ℕ) → m ≡ n → m ≤ n + 1
most-of m n e = omega (arith, e)

-- Aging gives out no id.

next-found : (s : Plain) (f : Found) → (age_found s f).next ≡ s.next
next-found s (TheTuple t) = either-next (is_due_tuple s.clock t) (age_tuple s t) s s.next (either-next (is_none t.renewer) (tuple_ended last.Expired t s) (with_tuple t.id doubt_tuple s) s.next refl refl) refl
next-found s (TheRequest r) = either-next (is_due_request s.clock r) (age_request s r) s s.next (either-next (is_none r.renewer) (request_in r.id (state.Answered out.Expired) s) (with_request r.id doubt_request s) s.next refl refl) refl
next-found s (TheNotifier n) = either-next (is_due_notifier s.clock n) (age_notifier s n) s s.next (either-next (is_none n.renewer) (with_notifier n.id (close_after last.Expired (length s.events)) s) (with_notifier n.id doubt_notifier s) s.next refl refl) refl
next-found s (HasEnded kind last) = refl
next-found s IsRecycled = refl
next-found s IsUnknown = refl

next-below : (n : ℕ) (s : Plain) → (aged_below n s).next ≡ s.next
next-below zero s = refl
next-below (suc n) s = next-found (aged_below n s) (found (aged_below n s) n) ∙ next-below n s

pub next-aged : (s : Plain) → (aged s).next ≡ s.next
unfolding aged
next-aged s = next-below s.next s

-- Neither does serving.

next-served-as : (k : Kind) (r : Request) (t : Entry) (s : Plain) → (served_as k r t s).next ≡ s.next
next-served-as kind.Read r t s = refl
next-served-as kind.Take r t s = refl
next-served-as kind.Move r t s = refl

next-served-rows : (s : Plain) (r : Option Request) (t : Option Entry) → (served_rows s r t).next ≡ s.next
next-served-rows s (Some r) (Some t) = next-served-as r.kind r t s
next-served-rows s (Some r) None = refl
next-served-rows s None t = refl

pub next-served : (s : Plain) (pick : Pick) → (served s pick).next ≡ s.next
next-served s pick = next-served-rows s (request_at s pick.request) (tuple_at s pick.tuple)

pub next-Serve : (s : Plain) (picks : List Pick) (s' : Plain) → Serve s picks s' → s'.next ≡ s.next
next-Serve s [] s' serve = ap (λ (x : Plain). x.next) serve.1
next-Serve s (pick ∷ picks) s' serve = next-Serve (served s pick) picks s' serve.1 ∙ next-served s pick

-- Write, Reserve and Notify give out one, where the space isn't shut.

unless-shut-most : (b : Bool) (s : Plain) (case : Outcome) → case.after.next ≡ s.next + 1 → (if b then answers s out.Shut else case).after.next ≤ s.next + 1
unless-shut-most true s case e = none-given s.next
unless-shut-most false s case e = omega (arith, e)

most-write : (s : Plain) (value : Tuple) (lease : Lease) → (write s value lease).after.next ≤ s.next + 1
most-write s value lease =
    let t = new_tuple s value lease in
    unless-shut-most s.shut s (answers (write_tuple s t) (out.Entry s.next)) (either-next (is_over s.clock t.deadline) (written_over t (minted s)) (written t (minted s)) (s.next + 1) refl refl)

most-reserve : (s : Plain) (caller : ℕ) (k : Kind) (pattern : Template) (lease : Lease) → (reserve s caller k pattern lease).after.next ≤ s.next + 1
most-reserve s caller k pattern lease = unless-shut-most s.shut s _ refl

most-notify : (s : Plain) (event : Tree) (pattern : Template) (lease : Lease) → (notify s event pattern lease).after.next ≤ s.next + 1
most-notify s event pattern lease = unless-shut-most s.shut s _ refl

-- Each other case gives out none.

next-own : (s : Plain) (caller : ℕ) (case : Request → Outcome) (f : Found) → ((r : Request) → (case r).after.next ≡ s.next) → (on_own s caller case f).after.next ≡ s.next
next-own s caller case (TheRequest r) e = either-case (r.caller == caller) (case r) (answers s out.WrongKind) s.next (e r) refl
next-own s caller case (TheTuple t) e = refl
next-own s caller case (TheNotifier n) e = refl
next-own s caller case (HasEnded kind last) e = refl
next-own s caller case IsRecycled e = refl
next-own s caller case IsUnknown e = refl

next-submit-unmatched : (s : Plain) (r : Request) → (submit_unmatched s r).after.next ≡ s.next
next-submit-unmatched s r =
    either-case r.marked (answers (request_ended last.Canceled r.id s) out.Canceled) _ s.next refl
    (either-case (is_over s.clock r.deadline && is_none r.renewer) (answers (request_ended last.Expired r.id s) out.Expired) (answers (request_in r.id state.Parked s) (out.Parked r.id)) s.next refl refl)

next-collect-served : (s : Plain) (r : Request) (t : Entry) (k : Kind) → (collect_served s r t k).after.next ≡ s.next
next-collect-served s r t kind.Read = refl
next-collect-served s r t kind.Take = refl
next-collect-served s r t kind.Move = refl

next-submit-matched : (s : Plain) (r : Request) (choice : Option Entry) → (submit_matched s r choice).after.next ≡ s.next
next-submit-matched s r None = next-submit-unmatched s r
next-submit-matched s r (Some t) = next-collect-served (served_with r t s) r t r.kind ∙ next-served-as r.kind r t s

next-submit : (s : Plain) (r : Request) (choice : Option Entry) (st : RequestState) → (submit s r choice st).after.next ≡ s.next
next-submit s r choice state.Reserved = next-submit-matched s r choice
next-submit s r choice state.Parked = refl
next-submit s r choice (state.Granted tuple) = refl
next-submit s r choice (state.Answered o) = refl

next-collect : (s : Plain) (r : Request) (st : RequestState) → (collect s r st).after.next ≡ s.next
next-collect s r state.Reserved = refl
next-collect s r state.Parked = refl
next-collect s r (state.Granted tuple) = refl
next-collect s r (state.Answered o) = refl

next-settle-tuple : (ok : Bool) (o : Option Entry) (s : Plain) → (settle_tuple ok o s).next ≡ s.next
next-settle-tuple ok None s = refl
next-settle-tuple true (Some t) s = refl
next-settle-tuple false (Some t) s = either-next t.marked (tuple_ended last.Canceled t s) (with_tuple t.id (λ t. record t { holder = None }) s) s.next refl refl

next-settle : (s : Plain) (r : Request) (ok : Bool) (st : RequestState) → (settle s r ok st).after.next ≡ s.next
next-settle s r ok state.Reserved = refl
next-settle s r ok state.Parked = refl
next-settle s r ok (state.Granted tuple) = next-settle-tuple ok (tuple_at s tuple) s
next-settle s r ok (state.Answered o) = refl

next-pop-empty : (s : Plain) (n : Notifier) (nothing : Out) (h : Hearing) → (pop_empty s n nothing h).after.next ≡ s.next
next-pop-empty s n nothing hearing.Running = refl
next-pop-empty s n nothing (hearing.Closed last until) = refl

next-pop-queue : (s : Plain) (n : Notifier) (nothing : Out) (events : List Raised) → (pop_queue s n nothing events).after.next ≡ s.next
next-pop-queue s n nothing [] = next-pop-empty s n nothing n.state
next-pop-queue s n nothing (e ∷ es) = refl

next-pop : (s : Plain) (f : Found) → (pop s f).after.next ≡ s.next
next-pop s (TheRequest r) = refl
next-pop s (TheTuple t) = refl
next-pop s (TheNotifier n) = next-pop-queue s n out.NotYet (queue n s.events)
next-pop s (HasEnded kind last) = refl
next-pop s IsRecycled = refl
next-pop s IsUnknown = refl

next-withdraw-request : (s : Plain) (r : Request) (st : RequestState) → (withdraw_request s r st).after.next ≡ s.next
next-withdraw-request s r state.Reserved = refl
next-withdraw-request s r state.Parked = refl
next-withdraw-request s r (state.Granted tuple) = refl
next-withdraw-request s r (state.Answered o) = refl

next-withdraw : (s : Plain) (caller : ℕ) (f : Found) → (withdraw s caller f).after.next ≡ s.next
next-withdraw s caller (TheRequest r) = either-case (r.caller == caller) (withdraw_request s r r.state) (answers s out.WrongKind) s.next (next-withdraw-request s r r.state) refl
next-withdraw s caller (TheTuple t) = refl
next-withdraw s caller (TheNotifier n) = next-pop-queue s n out.WouldWait (queue n s.events)
next-withdraw s caller (HasEnded kind last) = refl
next-withdraw s caller IsRecycled = refl
next-withdraw s caller IsUnknown = refl

next-cancel-tuple : (s : Plain) (t : Entry) (holder : Option ℕ) → (cancel_tuple s t holder).next ≡ s.next
next-cancel-tuple s t None = refl
next-cancel-tuple s t (Some holder) = refl

next-cancel-request : (s : Plain) (r : Request) (st : RequestState) → (cancel_request s r st).next ≡ s.next
next-cancel-request s r state.Reserved = refl
next-cancel-request s r state.Parked = refl
next-cancel-request s r (state.Granted tuple) = refl
next-cancel-request s r (state.Answered o) = refl

next-cancel-notifier : (s : Plain) (n : Notifier) (h : Hearing) → (cancel_notifier s n h).next ≡ s.next
next-cancel-notifier s n hearing.Running = refl
next-cancel-notifier s n (hearing.Closed last until) = refl

next-cancel : (s : Plain) (f : Found) → (cancel s f).after.next ≡ s.next
next-cancel s (TheRequest r) = next-cancel-request s r r.state
next-cancel s (TheTuple t) = next-cancel-tuple s t t.holder
next-cancel s (TheNotifier n) = next-cancel-notifier s n n.state
next-cancel s (HasEnded kind last) = refl
next-cancel s IsRecycled = refl
next-cancel s IsUnknown = refl

next-renew-request : (s : Plain) (d : Option ℕ) (renewer : Option Remote) (r : Request) (st : RequestState) → (renew_request s d renewer r st).next ≡ s.next
next-renew-request s d renewer r state.Reserved = refl
next-renew-request s d renewer r state.Parked = refl
next-renew-request s d renewer r (state.Granted tuple) = refl
next-renew-request s d renewer r (state.Answered o) = refl

next-renew-notifier : (s : Plain) (d : Option ℕ) (renewer : Option Remote) (n : Notifier) (h : Hearing) → (renew_notifier s d renewer n h).next ≡ s.next
next-renew-notifier s d renewer n hearing.Running = refl
next-renew-notifier s d renewer n (hearing.Closed last until) = refl

next-renew-with : (s : Plain) (d : Option ℕ) (renewer : Option Remote) (f : Found) → (renew_with s d renewer f).after.next ≡ s.next
next-renew-with s d renewer (TheRequest r) = next-renew-request s d renewer r r.state
next-renew-with s d renewer (TheTuple t) = refl
next-renew-with s d renewer (TheNotifier n) = next-renew-notifier s d renewer n n.state
next-renew-with s d renewer (HasEnded kind last) = refl
next-renew-with s d renewer IsRecycled = refl
next-renew-with s d renewer IsUnknown = refl

next-look : (s : Plain) (f : Found) → (look s f).after.next ≡ s.next
next-look s (TheRequest r) = refl
next-look s (TheTuple t) = refl
next-look s (TheNotifier n) = refl
next-look s (HasEnded kind last) = refl
next-look s IsRecycled = refl
next-look s IsUnknown = refl

next-value : (s : Plain) (f : Found) → (value s f).after.next ≡ s.next
next-value s (TheRequest r) = refl
next-value s (TheTuple t) = refl
next-value s (TheNotifier n) = refl
next-value s (HasEnded kind last) = refl
next-value s IsRecycled = refl
next-value s IsUnknown = refl

next-ask : (s : Plain) (a : Option Asking) → (ask s a).after.next ≡ s.next
next-ask s None = refl
next-ask s (Some a) = refl

next-told : (s : Plain) (d : Option ℕ) (f : Found) → (told s d f).after.next ≡ s.next
next-told s d (TheRequest r) = either-next (is_asked r.doubt) (with_request r.id (renewed_request d (renewer_of d r.renewer s.clock)) s) s s.next refl refl
next-told s d (TheTuple t) = either-next (is_asked t.doubt) (with_tuple t.id (renewed_tuple d (renewer_of d t.renewer s.clock)) s) s s.next refl refl
next-told s d (TheNotifier n) = either-next (is_asked n.doubt) (with_notifier n.id (renewed_notifier d (renewer_of d n.renewer s.clock)) s) s s.next refl refl
next-told s d (HasEnded kind last) = refl
next-told s d IsRecycled = refl
next-told s d IsUnknown = refl

next-shut : (s : Plain) → (shut s).after.next ≡ s.next
next-shut s = either-case s.shut (answers s out.NotYet) (answers (shut_down s) out.Plain) s.next refl refl

-- An event's own case gives out at most one id.
pub outcome-next : (s : Plain) (caller : ℕ) (event : Event) (choice : Option Entry) → (outcome s caller event choice).after.next ≤ s.next + 1
outcome-next s caller (Write v lease) choice = most-write s v lease
outcome-next s caller (Reserve k pattern lease) choice = most-reserve s caller k pattern lease
outcome-next s caller (Submit id) choice = most-of _ s.next (next-own s caller (λ r. submit s r choice r.state) (found s id) (λ r. next-submit s r choice r.state))
outcome-next s caller (Collect id) choice = most-of _ s.next (next-own s caller (λ r. collect s r r.state) (found s id) (λ r. next-collect s r r.state))
outcome-next s caller (Settle id ok) choice = most-of _ s.next (next-own s caller (λ r. settle s r ok r.state) (found s id) (λ r. next-settle s r ok r.state))
outcome-next s caller (Withdraw id) choice = most-of _ s.next (next-withdraw s caller (found s id))
outcome-next s caller (Cancel id) choice = most-of _ s.next (next-cancel s (found s id))
outcome-next s caller (Renew id lease) choice = most-of _ s.next (next-renew-with s (deadline lease.life s.clock) (renewer_of (deadline lease.life s.clock) lease.renewer s.clock) (found s id))
outcome-next s caller (Look id) choice = most-of _ s.next (next-look s (found s id))
outcome-next s caller (Value id) choice = most-of _ s.next (next-value s (found s id))
outcome-next s caller (ReadAll pattern) choice = none-given s.next
outcome-next s caller (Notify event pattern lease) choice = most-notify s event pattern lease
outcome-next s caller (Pop id) choice = most-of _ s.next (next-pop s (found s id))
outcome-next s caller NextAsk choice = most-of _ s.next (next-ask s (least (askings s)))
outcome-next s caller (Asked id life) choice = most-of _ s.next (next-told s (deadline life s.clock) (found s id))
outcome-next s caller Tick choice = none-given s.next
outcome-next s caller Shut choice = most-of _ s.next (next-shut s)

-- what follows the event's own case gives out none
after-next : (s : Plain) (o : Outcome) (picks : List Pick) (s' : Plain) → Serve (aged o.after) picks s' → o.after.next ≤ s.next + 1 → s'.next ≤ s.next + 1
after-next s o picks s' serve most = subst (λ (n : ℕ). n ≤ s.next + 1) (sym (next-Serve (aged o.after) picks s' serve ∙ next-aged o.after)) most

case-next : (s : Plain) (caller : ℕ) (event : Event) (r : Option Request) (o : Out) (picks : List Pick) (s' : Plain) → Case s caller event r o picks s' → s'.next ≤ s.next + 1
case-next s caller event None o picks s' case = after-next s (outcome s caller event None) picks s' case.1 (outcome-next s caller event None)
case-next s caller event (Some r) o [] s' case = absurd case
case-next s caller event (Some r) o (pick ∷ picks) s' case = after-next s (outcome s caller event (tuple_at s pick.tuple)) picks s' case.2 (outcome-next s caller event (tuple_at s pick.tuple))

-- A step gives out at most one id.
pub step_next : (s : Plain) (caller at : ℕ) (event : Event) (out : Out) (picks : List Pick) (s' : Plain) → Step s caller at event out picks s' → s'.next ≤ s.next + 1
step_next s caller at event o picks s' step =
    subst (λ (n : ℕ). s'.next ≤ n + 1) (next-aged (advanced s at))
    (case-next (found_by s at) caller event (chooser (found_by s at) caller event) o picks s' step)
