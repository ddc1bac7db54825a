-- When Canceled is answered.
use Rattle.std.proofs.Common.{◌≡◌, ℕ, Bool, true, false, cond, ◌&&◌, ◌||◌, List, [], ◌∷◌, Option, Some, None, refl, sym, ◌∙◌, ap}
use Rattle.std.specs.Prelude.{◌==◌, is_none}
use Rattle.rinda_tuple.specs.Lives.{deadline}
use Rattle.rinda_rules.specs.declared.object.ObjectKind.{ObjectKind}
use Rattle.rinda_rules.specs.declared.object.ObjectKind.TheVariants as object
use Rattle.rinda_rules.specs.declared.object.Last.TheVariants as last
use Rattle.rinda_rules.specs.declared.event.Kind.{Kind}
use Rattle.rinda_rules.specs.declared.event.Kind.TheVariants as kind
use Rattle.rinda_rules.specs.declared.event.Event.{Event}
use Rattle.rinda_rules.specs.declared.event.Event.TheVariants.{Write, Reserve, Submit, Collect, Settle, Withdraw, Cancel, Renew, Look, Value, ReadAll, Notify, Pop, NextAsk, Asked, Tick, Shut}
use Rattle.rinda_rules.specs.declared.out.Out.{Out}
use Rattle.rinda_rules.specs.declared.out.Out.TheVariants as out
use Rattle.rinda_rules.specs.declared.row.RequestState.{RequestState}
use Rattle.rinda_rules.specs.declared.row.RequestState.TheVariants as state
use Rattle.rinda_rules.specs.declared.plain.Entry.{Entry}
use Rattle.rinda_rules.specs.declared.plain.Request.{Request}
use Rattle.rinda_rules.specs.declared.plain.Notifier.{Notifier}
use Rattle.rinda_rules.specs.declared.plain.Hearing.{Hearing}
use Rattle.rinda_rules.specs.declared.plain.Hearing.TheVariants as hearing
use Rattle.rinda_rules.specs.declared.plain.Raised.{Raised}
use Rattle.rinda_rules.specs.declared.turn.Pick.{Pick}
use Rattle.rinda_rules.specs.Space.{Plain, Found, TheTuple, TheRequest, TheNotifier, HasEnded, IsRecycled, IsUnknown, found, request_at, tuple_at, is_over}
use Rattle.rinda_rules.specs.Queue.{queue}
use Rattle.rinda_rules.specs.Phases.{served_as, request_in, request_ended}
use Rattle.rinda_rules.specs.Cases.{Outcome, answers, on_own, submit, collect_served, collect, settle, pop, pop_empty, pop_queue, pop_ended, withdraw, withdraw_request, value, askings, least, outcome}
use Rattle.rinda_rules.specs.Steps.{Case}
use Rattle.rinda_rules.proofs.Finding.{found-request}
use Rattle.rinda_laws.specs.Decides.{asks_for}
use Rattle.rinda_laws.proofs.Deciding.{is_canceled_out, was_canceled, or_left, or_right, contra, unless_not, shut_not, ask_not, cancel_not, renew_not, look_not, value_not, told_not}

abbrev request_canceled : Found → Bool
request_canceled (TheRequest r) = r.marked || was_canceled r.state
request_canceled (TheTuple t) = false
request_canceled (TheNotifier n) = false
request_canceled (HasEnded kind last) = false
request_canceled IsRecycled = false
request_canceled IsUnknown = false

-- the event may answer Canceled in that space: of a request that is marked or was answered so
abbrev may_cancel : Plain → Event → Bool
may_cancel s (Write value lease) = false
may_cancel s (Reserve kind pattern lease) = false
may_cancel s (Submit id) = request_canceled (found s id)
may_cancel s (Collect id) = request_canceled (found s id)
may_cancel s (Settle id ok) = false
may_cancel s (Withdraw id) = request_canceled (found s id)
may_cancel s (Cancel id) = false
may_cancel s (Renew id lease) = false
may_cancel s (Look id) = false
may_cancel s (Value id) = false
may_cancel s (ReadAll pattern) = false
may_cancel s (Notify event pattern lease) = false
may_cancel s (Pop id) = false
may_cancel s NextAsk = false
may_cancel s (Asked id life) = false
may_cancel s Tick = false
may_cancel s Shut = false

submit_canceled : (s : Plain) (caller : ℕ) (choice : Option Entry) (f : Found) → is_canceled_out (on_own s caller (λ r. submit s r choice r.state) f).out ≡ true → request_canceled f ≡ true
submit_canceled s caller choice (TheTuple t) e = cc
submit_canceled s caller choice (TheNotifier n) e = cc
submit_canceled s caller choice (HasEnded k l) e = cc
submit_canceled s caller choice IsRecycled e = cc
submit_canceled s caller choice IsUnknown e = cc
submit_canceled s caller choice (TheRequest r) e = by_own (r.caller == caller) e
  where
    by_tests : (marked over : Bool) → r.marked ≡ marked → is_canceled_out (cond {A = Outcome} marked (answers (request_ended last.Canceled r.id s) out.Canceled) (cond {A = Outcome} over (answers (request_ended last.Expired r.id s) out.Expired) (answers (request_in r.id state.Parked s) (out.Parked r.id)))).out ≡ true → request_canceled (TheRequest r) ≡ true
    by_tests true over is e = or_left r.marked (was_canceled r.state) is
    by_tests false true is e = cc
    by_tests false false is e = cc

    by_kind : (k : Kind) (t : Entry) → is_canceled_out (collect_served (served_as k r t s) r t k).out ≡ true → request_canceled (TheRequest r) ≡ true
    by_kind kind.Read t e = cc
    by_kind kind.Take t e = cc
    by_kind kind.Move t e = cc

    by_state : (st : RequestState) (o : Option Entry) → is_canceled_out (submit s r o st).out ≡ true → request_canceled (TheRequest r) ≡ true
    by_state state.Reserved None e = by_tests r.marked (is_over s.clock r.deadline && is_none r.renewer) refl e
    by_state state.Reserved (Some t) e = by_kind r.kind t e
    by_state state.Parked o e = cc
    by_state (state.Granted t) o e = cc
    by_state (state.Answered a) o e = cc

    by_own : (b : Bool) → is_canceled_out (cond {A = Outcome} b (submit s r choice r.state) (answers s out.WrongKind)).out ≡ true → request_canceled (TheRequest r) ≡ true
    by_own true e = by_state r.state choice e
    by_own false e = cc

collect_canceled : (s : Plain) (r : Request) (st : RequestState) → is_canceled_out (collect s r st).out ≡ true → was_canceled st ≡ true
collect_canceled s r state.Reserved e = cc
collect_canceled s r state.Parked e = cc
collect_canceled s r (state.Granted t) e = cc
collect_canceled s r (state.Answered o) e = e

withdraw_canceled : (s : Plain) (r : Request) (st : RequestState) → is_canceled_out (withdraw_request s r st).out ≡ true → was_canceled st ≡ true
withdraw_canceled s r state.Reserved e = cc
withdraw_canceled s r state.Parked e = cc
withdraw_canceled s r (state.Granted t) e = cc
withdraw_canceled s r (state.Answered o) e = e

collect_own_canceled : (s : Plain) (caller : ℕ) (f : Found) → is_canceled_out (on_own s caller (λ r. collect s r r.state) f).out ≡ true → request_canceled f ≡ true
collect_own_canceled s caller (TheTuple t) e = cc
collect_own_canceled s caller (TheNotifier n) e = cc
collect_own_canceled s caller (HasEnded k l) e = cc
collect_own_canceled s caller IsRecycled e = cc
collect_own_canceled s caller IsUnknown e = cc
collect_own_canceled s caller (TheRequest r) e = or_right r.marked (was_canceled r.state) (by_own (r.caller == caller) e)
  where
    by_own : (b : Bool) → is_canceled_out (cond {A = Outcome} b (collect s r r.state) (answers s out.WrongKind)).out ≡ true → was_canceled r.state ≡ true
    by_own true e = collect_canceled s r r.state e
    by_own false e = cc

ended_not_canceled : (k : ObjectKind) → is_canceled_out (pop_ended k) ≡ false
ended_not_canceled object.Entry = refl
ended_not_canceled object.Request = refl
ended_not_canceled object.Notifier = refl

queue_not_canceled : (s : Plain) (n : Notifier) (nothing : Out) (es : List Raised) → is_canceled_out nothing ≡ false → is_canceled_out (pop_queue s n nothing es).out ≡ false
queue_not_canceled s n nothing [] e = by_state n.state
  where
    by_state : (st : Hearing) → is_canceled_out (pop_empty s n nothing st).out ≡ false
    by_state hearing.Running = e
    by_state (hearing.Closed l u) = refl
queue_not_canceled s n nothing (x ∷ xs) e = refl

withdraw_own_canceled : (s : Plain) (caller : ℕ) (f : Found) → is_canceled_out (withdraw s caller f).out ≡ true → request_canceled f ≡ true
withdraw_own_canceled s caller (TheTuple t) e = cc
withdraw_own_canceled s caller (TheNotifier n) e = absurd (contra _ e (queue_not_canceled s n out.WouldWait (queue n s.events) refl))
withdraw_own_canceled s caller (HasEnded k l) e = absurd (contra _ e (ended_not_canceled k))
withdraw_own_canceled s caller IsRecycled e = cc
withdraw_own_canceled s caller IsUnknown e = cc
withdraw_own_canceled s caller (TheRequest r) e = or_right r.marked (was_canceled r.state) (by_own (r.caller == caller) e)
  where
    by_own : (b : Bool) → is_canceled_out (cond {A = Outcome} b (withdraw_request s r r.state) (answers s out.WrongKind)).out ≡ true → was_canceled r.state ≡ true
    by_own true e = withdraw_canceled s r r.state e
    by_own false e = cc

settle_own_canceled : (s : Plain) (caller : ℕ) (ok : Bool) (f : Found) → is_canceled_out (on_own s caller (λ r. settle s r ok r.state) f).out ≡ false
settle_own_canceled s caller ok (TheTuple t) = refl
settle_own_canceled s caller ok (TheNotifier n) = refl
settle_own_canceled s caller ok (HasEnded k l) = refl
settle_own_canceled s caller ok IsRecycled = refl
settle_own_canceled s caller ok IsUnknown = refl
settle_own_canceled s caller ok (TheRequest r) = by_own (r.caller == caller)
  where
    by_state : (st : RequestState) → is_canceled_out (settle s r ok st).out ≡ false
    by_state state.Reserved = refl
    by_state state.Parked = refl
    by_state (state.Granted t) = refl
    by_state (state.Answered o) = refl

    by_own : (b : Bool) → is_canceled_out (cond {A = Outcome} b (settle s r ok r.state) (answers s out.WrongKind)).out ≡ false
    by_own true = by_state r.state
    by_own false = refl

pop_own_canceled : (s : Plain) (f : Found) → is_canceled_out (pop s f).out ≡ false
pop_own_canceled s (TheRequest r) = refl
pop_own_canceled s (TheTuple t) = refl
pop_own_canceled s (TheNotifier n) = queue_not_canceled s n out.NotYet (queue n s.events) refl
pop_own_canceled s (HasEnded k l) = ended_not_canceled k
pop_own_canceled s IsRecycled = refl
pop_own_canceled s IsUnknown = refl

canceled_outcome : (s : Plain) (caller : ℕ) (event : Event) (choice : Option Entry) → is_canceled_out (outcome s caller event choice).out ≡ true → may_cancel s event ≡ true
canceled_outcome s caller (Write v lease) choice e = absurd (contra _ e ((unless_not s.shut s _ (refl, refl)).1))
canceled_outcome s caller (Reserve k pattern lease) choice e = absurd (contra _ e ((unless_not s.shut s _ (refl, refl)).1))
canceled_outcome s caller (Submit id) choice e = submit_canceled s caller choice (found s id) e
canceled_outcome s caller (Collect id) choice e = collect_own_canceled s caller (found s id) e
canceled_outcome s caller (Settle id ok) choice e = absurd (contra _ e (settle_own_canceled s caller ok (found s id)))
canceled_outcome s caller (Withdraw id) choice e = withdraw_own_canceled s caller (found s id) e
canceled_outcome s caller (Cancel id) choice e = absurd (contra _ e ((cancel_not s (found s id)).1))
canceled_outcome s caller (Renew id lease) choice e = absurd (contra _ e ((renew_not s lease (found s id)).1))
canceled_outcome s caller (Look id) choice e = absurd (contra _ e ((look_not s (found s id)).1))
canceled_outcome s caller (Value id) choice e = absurd (contra _ e ((value_not s (found s id)).1))
canceled_outcome s caller (ReadAll pattern) choice e = cc
canceled_outcome s caller (Notify x pattern lease) choice e = absurd (contra _ e ((unless_not s.shut s _ (refl, refl)).1))
canceled_outcome s caller (Pop id) choice e = absurd (contra _ e (pop_own_canceled s (found s id)))
canceled_outcome s caller NextAsk choice e = absurd (contra _ e ((ask_not s (least (askings s))).1))
canceled_outcome s caller (Asked id life) choice e = absurd (contra _ e ((told_not s (deadline life s.clock) (found s id)).1))
canceled_outcome s caller Tick choice e = cc
canceled_outcome s caller Shut choice e = absurd (contra _ e ((shut_not s s.shut).1))

pub canceled_case : (s : Plain) (caller : ℕ) (event : Event) (r : Option Request) (o : Out) (picks : List Pick) (s' : Plain) → Case s caller event r o picks s' → is_canceled_out o ≡ true → may_cancel s event ≡ true
canceled_case s caller event None o picks s' case e = canceled_outcome s caller event None (ap is_canceled_out (sym case.0) ∙ e)
canceled_case s caller event (Some r) o [] s' case e = absurd case
canceled_case s caller event (Some r) o (pick ∷ picks) s' case e = canceled_outcome s caller event (tuple_at s pick.tuple) (ap is_canceled_out (sym case.1) ∙ e)

-- the request of which the event is answered Canceled
pub record Cancels (s : Plain) (event : Event) : Type 0 where
  pub id : ℕ
  pub asks : asks_for event ≡ Some id
  pub row : Request
  pub there : request_at s id ≡ Some row
  pub canceled : (row.marked || was_canceled row.state) ≡ true

canceled_of : (s : Plain) (event : Event) (id : ℕ) (f : Found) → asks_for event ≡ Some id → found s id ≡ f → request_canceled f ≡ true → Cancels s event
canceled_of s event id (TheRequest r) asks is e = record { id = id; asks = asks; row = r; there = found-request s id r is; canceled = e }
canceled_of s event id (TheTuple t) asks is e = cc
canceled_of s event id (TheNotifier n) asks is e = cc
canceled_of s event id (HasEnded k l) asks is e = cc
canceled_of s event id IsRecycled asks is e = cc
canceled_of s event id IsUnknown asks is e = cc

pub why_canceled : (s : Plain) (event : Event) → may_cancel s event ≡ true → Cancels s event
why_canceled s (Submit id) e = canceled_of s (Submit id) id (found s id) refl refl e
why_canceled s (Collect id) e = canceled_of s (Collect id) id (found s id) refl refl e
why_canceled s (Withdraw id) e = canceled_of s (Withdraw id) id (found s id) refl refl e
why_canceled s (Pop id) e = cc
why_canceled s (Write v lease) e = cc
why_canceled s (Reserve k pattern lease) e = cc
why_canceled s (Settle id ok) e = cc
why_canceled s (Cancel id) e = cc
why_canceled s (Renew id lease) e = cc
why_canceled s (Look id) e = cc
why_canceled s (Value id) e = cc
why_canceled s (ReadAll pattern) e = cc
why_canceled s (Notify x pattern lease) e = cc
why_canceled s NextAsk e = cc
why_canceled s (Asked id life) e = cc
why_canceled s Tick e = cc
why_canceled s Shut e = cc
