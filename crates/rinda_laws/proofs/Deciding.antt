-- When Expired is answered.
use Rattle.std.proofs.Common.{◌≡◌, ℕ, Bool, true, false, cond, not, ◌&&◌, ◌||◌, List, [], ◌∷◌, Option, Some, None, refl, sym, ◌∙◌, ap, arith}
use Rattle.std.specs.Prelude.{◌==◌, is_none}
use Rattle.rinda_tuple.specs.declared.lease.Lease.{Lease}
use Rattle.rinda_tuple.specs.Lives.{deadline}
use Rattle.rinda_rules.specs.declared.object.ObjectKind.{ObjectKind}
use Rattle.rinda_rules.specs.declared.object.ObjectKind.TheVariants as object
use Rattle.rinda_rules.specs.declared.object.Last.{Last}
use Rattle.rinda_rules.specs.declared.object.Last.TheVariants as last
use Rattle.rinda_rules.specs.declared.event.Kind.{Kind}
use Rattle.rinda_rules.specs.declared.event.Kind.TheVariants as kind
use Rattle.rinda_rules.specs.declared.event.Event.{Event}
use Rattle.rinda_rules.specs.declared.event.Event.TheVariants.{Write, Reserve, Submit, Collect, Settle, Withdraw, Cancel, Renew, Look, Value, ReadAll, Notify, Pop, NextAsk, Asked, Tick, Shut}
use Rattle.rinda_rules.specs.declared.out.Out.{Out}
use Rattle.rinda_rules.specs.declared.out.Out.TheVariants as out
use Rattle.rinda_rules.specs.declared.row.RequestState.{RequestState}
use Rattle.rinda_rules.specs.declared.row.RequestState.TheVariants as state
use Rattle.rinda_rules.specs.declared.plain.Entry.{Entry}
use Rattle.rinda_rules.specs.declared.plain.Request.{Request}
use Rattle.rinda_rules.specs.declared.plain.Notifier.{Notifier}
use Rattle.rinda_rules.specs.declared.plain.Hearing.{Hearing}
use Rattle.rinda_rules.specs.declared.plain.Hearing.TheVariants as hearing
use Rattle.rinda_rules.specs.declared.plain.Raised.{Raised}
use Rattle.rinda_rules.specs.declared.turn.Pick.{Pick}
use Rattle.rinda_rules.specs.Space.{Plain, Found, TheTuple, TheRequest, TheNotifier, HasEnded, IsRecycled, IsUnknown, found, request_at, tuple_at, is_over, is_reserved, has_match}
use Rattle.rinda_rules.specs.Queue.{queue}
use Rattle.rinda_rules.specs.Phases.{may_have_row, served_as, request_in, request_ended}
use Rattle.rinda_rules.specs.Cases.{Outcome, answers, on_own, submit, collect_served, collect, settle, pop, pop_empty, pop_queue, pop_ended, withdraw, withdraw_request, cancel, renew, look, value, value_ended, ask, Asking, askings, least, told, shut_down, outcome}
use Rattle.rinda_rules.specs.Steps.{Case, chooser, matched}
use Rattle.rinda_rules.proofs.Finding.{found-request}
use Rattle.rinda_laws.specs.Decides.{asks_for, SubmitsLate}

abbrev pub is_expired_out : Out → Bool
is_expired_out out.Expired = true
is_expired_out _ = false

abbrev pub is_canceled_out : Out → Bool
is_canceled_out out.Canceled = true
is_canceled_out _ = false

-- the request was answered Expired before
abbrev pub was_expired : RequestState → Bool
was_expired state.Reserved = false
was_expired state.Parked = false
was_expired (state.Granted tuple) = false
was_expired (state.Answered o) = is_expired_out o

abbrev pub was_canceled : RequestState → Bool
was_canceled state.Reserved = false
was_canceled state.Parked = false
was_canceled (state.Granted tuple) = false
was_canceled (state.Answered o) = is_canceled_out o

-- at a Submit: the deadline is at most now, there is no renewer, and no match
abbrev submit_expires : Plain → Found → Bool
submit_expires s (TheRequest r) = is_over s.clock r.deadline && (is_none r.renewer && not (has_match s r))
submit_expires s (TheTuple t) = false
submit_expires s (TheNotifier n) = false
submit_expires s (HasEnded kind last) = false
submit_expires s IsRecycled = false
submit_expires s IsUnknown = false

-- at a Collect: it was answered so before
abbrev collect_expires : Found → Bool
collect_expires (TheRequest r) = was_expired r.state
collect_expires (TheTuple t) = false
collect_expires (TheNotifier n) = false
collect_expires (HasEnded kind last) = false
collect_expires IsRecycled = false
collect_expires IsUnknown = false

abbrev is_notifier : ObjectKind → Bool
is_notifier object.Entry = false
is_notifier object.Request = false
is_notifier object.Notifier = true

-- at a Pop: the notifier has ended
abbrev pop_expires : Found → Bool
pop_expires (TheRequest r) = false
pop_expires (TheTuple t) = false
pop_expires (TheNotifier n) = false
pop_expires (HasEnded kind last) = is_notifier kind
pop_expires IsRecycled = false
pop_expires IsUnknown = false

-- the event may answer Expired in that space
abbrev may_expire : Plain → Event → Bool
may_expire s (Write value lease) = false
may_expire s (Reserve kind pattern lease) = false
may_expire s (Submit id) = submit_expires s (found s id)
may_expire s (Collect id) = collect_expires (found s id)
may_expire s (Settle id ok) = false
may_expire s (Withdraw id) = collect_expires (found s id) || pop_expires (found s id)
may_expire s (Cancel id) = false
may_expire s (Renew id lease) = false
may_expire s (Look id) = false
may_expire s (Value id) = false
may_expire s (ReadAll pattern) = false
may_expire s (Notify event pattern lease) = false
may_expire s (Pop id) = pop_expires (found s id)
may_expire s NextAsk = false
may_expire s (Asked id life) = false
may_expire s Tick = false
may_expire s Shut = false

back : (a b : Bool) → (a && b) ≡ true → b ≡ true
back a b e = grind arith

pub or_left : (a b : Bool) → a ≡ true → (a || b) ≡ true
or_left a b e = grind arith

pub or_right : (a b : Bool) → b ≡ true → (a || b) ≡ true
or_right a b e = grind arith

-- Expired.

matched-none : (r : Request) (own reserved match : Bool) → cond {A = Option Request} (own && (reserved && match)) (Some r) None ≡ None → own ≡ true → reserved ≡ true → match ≡ false
matched-none r own reserved true e x y = absurd (some_none (own && (reserved && true)) (all own reserved x y) e)
  where
    all : (a b : Bool) → a ≡ true → b ≡ true → (a && (b && true)) ≡ true
    all a b x y = grind arith

    some_none : (b : Bool) → b ≡ true → cond {A = Option Request} b (Some r) None ≡ None → ⊥
    some_none true x e = cc
    some_none false x e = cc
matched-none r own reserved false e x y = refl

submit_expired : (s : Plain) (caller : ℕ) (choice : Option Entry) (f : Found) → (choice ≡ None → matched s caller f ≡ None) → is_expired_out (on_own s caller (λ r. submit s r choice r.state) f).out ≡ true → submit_expires s f ≡ true
submit_expired s caller choice (TheTuple t) none e = cc
submit_expired s caller choice (TheNotifier n) none e = cc
submit_expired s caller choice (HasEnded k l) none e = cc
submit_expired s caller choice IsRecycled none e = cc
submit_expired s caller choice IsUnknown none e = cc
submit_expired s caller choice (TheRequest r) none e = by_own (r.caller == caller) refl e
  where
    matches : (a b c : Bool) → (a && b) ≡ true → c ≡ false → (a && (b && not c)) ≡ true
    matches a b c x y = grind arith

    by_tests : (marked over : Bool) → over ≡ (is_over s.clock r.deadline && is_none r.renewer) → has_match s r ≡ false → is_expired_out (cond {A = Outcome} marked (answers (request_ended last.Canceled r.id s) out.Canceled) (cond {A = Outcome} over (answers (request_ended last.Expired r.id s) out.Expired) (answers (request_in r.id state.Parked s) (out.Parked r.id)))).out ≡ true → submit_expires s (TheRequest r) ≡ true
    by_tests true over is nomatch e = cc
    by_tests false true is nomatch e = matches (is_over s.clock r.deadline) (is_none r.renewer) (has_match s r) (sym is) nomatch
    by_tests false false is nomatch e = cc

    by_kind : (k : Kind) (t : Entry) → is_expired_out (collect_served (served_as k r t s) r t k).out ≡ true → submit_expires s (TheRequest r) ≡ true
    by_kind kind.Read t e = cc
    by_kind kind.Take t e = cc
    by_kind kind.Move t e = cc

    by_state : (st : RequestState) (o : Option Entry) → r.state ≡ st → choice ≡ o → r.caller == caller ≡ true → is_expired_out (submit s r o st).out ≡ true → submit_expires s (TheRequest r) ≡ true
    by_state state.Reserved None is nochoice own e = by_tests r.marked (is_over s.clock r.deadline && is_none r.renewer) refl (matched-none r (r.caller == caller) (is_reserved r.state) (has_match s r) (none nochoice) own (ap is_reserved is)) e
    by_state state.Reserved (Some t) is nochoice own e = by_kind r.kind t e
    by_state state.Parked o is nochoice own e = cc
    by_state (state.Granted t) o is nochoice own e = cc
    by_state (state.Answered a) o is nochoice own e = cc

    by_own : (b : Bool) → r.caller == caller ≡ b → is_expired_out (cond {A = Outcome} b (submit s r choice r.state) (answers s out.WrongKind)).out ≡ true → submit_expires s (TheRequest r) ≡ true
    by_own true own e = by_state r.state choice refl refl own e
    by_own false own e = cc

collect_expired : (s : Plain) (r : Request) (st : RequestState) → is_expired_out (collect s r st).out ≡ true → was_expired st ≡ true
collect_expired s r state.Reserved e = cc
collect_expired s r state.Parked e = cc
collect_expired s r (state.Granted t) e = cc
collect_expired s r (state.Answered o) e = e

withdraw_expired : (s : Plain) (r : Request) (st : RequestState) → is_expired_out (withdraw_request s r st).out ≡ true → was_expired st ≡ true
withdraw_expired s r state.Reserved e = cc
withdraw_expired s r state.Parked e = cc
withdraw_expired s r (state.Granted t) e = cc
withdraw_expired s r (state.Answered o) e = e

ended_expired : (k : ObjectKind) → is_expired_out (pop_ended k) ≡ true → is_notifier k ≡ true
ended_expired object.Entry e = cc
ended_expired object.Request e = cc
ended_expired object.Notifier e = refl

queue_not_expired : (s : Plain) (n : Notifier) (nothing : Out) (es : List Raised) → is_expired_out nothing ≡ false → is_expired_out (pop_queue s n nothing es).out ≡ false
queue_not_expired s n nothing [] e = by_state n.state
  where
    by_state : (st : Hearing) → is_expired_out (pop_empty s n nothing st).out ≡ false
    by_state hearing.Running = e
    by_state (hearing.Closed l u) = refl
queue_not_expired s n nothing (x ∷ xs) e = refl

pub contra : (b : Bool) → b ≡ true → b ≡ false → ⊥
contra b x y = grind arith

collect_own : (s : Plain) (caller : ℕ) (f : Found) → is_expired_out (on_own s caller (λ r. collect s r r.state) f).out ≡ true → collect_expires f ≡ true
collect_own s caller (TheTuple t) e = cc
collect_own s caller (TheNotifier n) e = cc
collect_own s caller (HasEnded k l) e = cc
collect_own s caller IsRecycled e = cc
collect_own s caller IsUnknown e = cc
collect_own s caller (TheRequest r) e = by_own (r.caller == caller) e
  where
    by_own : (b : Bool) → is_expired_out (cond {A = Outcome} b (collect s r r.state) (answers s out.WrongKind)).out ≡ true → was_expired r.state ≡ true
    by_own true e = collect_expired s r r.state e
    by_own false e = cc

settle_own : (s : Plain) (caller : ℕ) (ok : Bool) (f : Found) → is_expired_out (on_own s caller (λ r. settle s r ok r.state) f).out ≡ false
settle_own s caller ok (TheTuple t) = refl
settle_own s caller ok (TheNotifier n) = refl
settle_own s caller ok (HasEnded k l) = refl
settle_own s caller ok IsRecycled = refl
settle_own s caller ok IsUnknown = refl
settle_own s caller ok (TheRequest r) = by_own (r.caller == caller)
  where
    by_state : (st : RequestState) → is_expired_out (settle s r ok st).out ≡ false
    by_state state.Reserved = refl
    by_state state.Parked = refl
    by_state (state.Granted t) = refl
    by_state (state.Answered o) = refl

    by_own : (b : Bool) → is_expired_out (cond {A = Outcome} b (settle s r ok r.state) (answers s out.WrongKind)).out ≡ false
    by_own true = by_state r.state
    by_own false = refl

withdraw_own : (s : Plain) (caller : ℕ) (f : Found) → is_expired_out (withdraw s caller f).out ≡ true → (collect_expires f || pop_expires f) ≡ true
withdraw_own s caller (TheTuple t) e = cc
withdraw_own s caller (TheNotifier n) e = absurd (contra _ e (queue_not_expired s n out.WouldWait (queue n s.events) refl))
withdraw_own s caller (HasEnded k l) e = ended_expired k e
withdraw_own s caller IsRecycled e = cc
withdraw_own s caller IsUnknown e = cc
withdraw_own s caller (TheRequest r) e = or_left (was_expired r.state) false (by_own (r.caller == caller) e)
  where
    by_own : (b : Bool) → is_expired_out (cond {A = Outcome} b (withdraw_request s r r.state) (answers s out.WrongKind)).out ≡ true → was_expired r.state ≡ true
    by_own true e = withdraw_expired s r r.state e
    by_own false e = cc

pop_own : (s : Plain) (f : Found) → is_expired_out (pop s f).out ≡ true → pop_expires f ≡ true
pop_own s (TheRequest r) e = cc
pop_own s (TheTuple t) e = cc
pop_own s (TheNotifier n) e = absurd (contra _ e (queue_not_expired s n out.NotYet (queue n s.events) refl))
pop_own s (HasEnded k l) e = ended_expired k e
pop_own s IsRecycled e = cc
pop_own s IsUnknown e = cc

-- the other cases answer neither

pub unless_not : (b : Bool) (s : Plain) (o : Outcome) → (is_expired_out o.out ≡ false) × (is_canceled_out o.out ≡ false) → (is_expired_out (cond {A = Outcome} b (answers s out.Shut) o).out ≡ false) × (is_canceled_out (cond {A = Outcome} b (answers s out.Shut) o).out ≡ false)
unless_not true s o e = (refl, refl)
unless_not false s o e = e

pub shut_not : (s : Plain) (b : Bool) → (is_expired_out (cond {A = Outcome} b (answers s out.NotYet) (answers (shut_down s) out.Plain)).out ≡ false) × (is_canceled_out (cond {A = Outcome} b (answers s out.NotYet) (answers (shut_down s) out.Plain)).out ≡ false)
shut_not s true = (refl, refl)
shut_not s false = (refl, refl)

pub ask_not : (s : Plain) (a : Option Asking) → (is_expired_out (ask s a).out ≡ false) × (is_canceled_out (ask s a).out ≡ false)
ask_not s None = (refl, refl)
ask_not s (Some a) = (refl, refl)

pub cancel_not : (s : Plain) (f : Found) → (is_expired_out (cancel s f).out ≡ false) × (is_canceled_out (cancel s f).out ≡ false)
cancel_not s (TheRequest r) = (refl, refl)
cancel_not s (TheTuple t) = (refl, refl)
cancel_not s (TheNotifier n) = (refl, refl)
cancel_not s (HasEnded k l) = (refl, refl)
cancel_not s IsRecycled = (refl, refl)
cancel_not s IsUnknown = (refl, refl)

pub renew_not : (s : Plain) (lease : Lease) (f : Found) → (is_expired_out (renew s lease f).out ≡ false) × (is_canceled_out (renew s lease f).out ≡ false)
renew_not s lease (TheRequest r) = (refl, refl)
renew_not s lease (TheTuple t) = (refl, refl)
renew_not s lease (TheNotifier n) = (refl, refl)
renew_not s lease (HasEnded k l) = (refl, refl)
renew_not s lease IsRecycled = (refl, refl)
renew_not s lease IsUnknown = (refl, refl)

pub look_not : (s : Plain) (f : Found) → (is_expired_out (look s f).out ≡ false) × (is_canceled_out (look s f).out ≡ false)
look_not s (TheRequest r) = (refl, refl)
look_not s (TheTuple t) = (refl, refl)
look_not s (TheNotifier n) = (refl, refl)
look_not s (HasEnded k l) = (refl, refl)
look_not s IsRecycled = (refl, refl)
look_not s IsUnknown = (refl, refl)

value_ended_not : (k : ObjectKind) → (is_expired_out (value_ended k) ≡ false) × (is_canceled_out (value_ended k) ≡ false)
value_ended_not object.Entry = (refl, refl)
value_ended_not object.Request = (refl, refl)
value_ended_not object.Notifier = (refl, refl)

pub value_not : (s : Plain) (f : Found) → (is_expired_out (value s f).out ≡ false) × (is_canceled_out (value s f).out ≡ false)
value_not s (TheRequest r) = (refl, refl)
value_not s (TheTuple t) = (refl, refl)
value_not s (TheNotifier n) = (refl, refl)
value_not s (HasEnded k l) = value_ended_not k
value_not s IsRecycled = (refl, refl)
value_not s IsUnknown = (refl, refl)

pub told_not : (s : Plain) (d : Option ℕ) (f : Found) → (is_expired_out (told s d f).out ≡ false) × (is_canceled_out (told s d f).out ≡ false)
told_not s d (TheRequest r) = (refl, refl)
told_not s d (TheTuple t) = (refl, refl)
told_not s d (TheNotifier n) = (refl, refl)
told_not s d (HasEnded k l) = (refl, refl)
told_not s d IsRecycled = (refl, refl)
told_not s d IsUnknown = (refl, refl)

expired_outcome : (s : Plain) (caller : ℕ) (event : Event) (choice : Option Entry) → (choice ≡ None → chooser s caller event ≡ None) → is_expired_out (outcome s caller event choice).out ≡ true → may_expire s event ≡ true
expired_outcome s caller (Write v lease) choice none e = absurd (contra _ e ((unless_not s.shut s _ (refl, refl)).0))
expired_outcome s caller (Reserve k pattern lease) choice none e = absurd (contra _ e ((unless_not s.shut s _ (refl, refl)).0))
expired_outcome s caller (Submit id) choice none e = submit_expired s caller choice (found s id) none e
expired_outcome s caller (Collect id) choice none e = collect_own s caller (found s id) e
expired_outcome s caller (Settle id ok) choice none e = absurd (contra _ e (settle_own s caller ok (found s id)))
expired_outcome s caller (Withdraw id) choice none e = withdraw_own s caller (found s id) e
expired_outcome s caller (Cancel id) choice none e = absurd (contra _ e ((cancel_not s (found s id)).0))
expired_outcome s caller (Renew id lease) choice none e = absurd (contra _ e ((renew_not s lease (found s id)).0))
expired_outcome s caller (Look id) choice none e = absurd (contra _ e ((look_not s (found s id)).0))
expired_outcome s caller (Value id) choice none e = absurd (contra _ e ((value_not s (found s id)).0))
expired_outcome s caller (ReadAll pattern) choice none e = cc
expired_outcome s caller (Notify x pattern lease) choice none e = absurd (contra _ e ((unless_not s.shut s _ (refl, refl)).0))
expired_outcome s caller (Pop id) choice none e = pop_own s (found s id) e
expired_outcome s caller NextAsk choice none e = absurd (contra _ e ((ask_not s (least (askings s))).0))
expired_outcome s caller (Asked id life) choice none e = absurd (contra _ e ((told_not s (deadline life s.clock) (found s id)).0))
expired_outcome s caller Tick choice none e = cc
expired_outcome s caller Shut choice none e = absurd (contra _ e ((shut_not s s.shut).0))

row_there : (s : Plain) (r : Request) (o : Option Entry) → may_have_row s r o ≡ true → o ≡ None → ⊥
row_there s r None e is = cc
row_there s r (Some t) e is = cc

pub expired_case : (s : Plain) (caller : ℕ) (event : Event) (r : Option Request) (o : Out) (picks : List Pick) (s' : Plain) → chooser s caller event ≡ r → Case s caller event r o picks s' → is_expired_out o ≡ true → may_expire s event ≡ true
expired_case s caller event None o picks s' chooses case e = expired_outcome s caller event None (λ _. chooses) (ap is_expired_out (sym case.0) ∙ e)
expired_case s caller event (Some r) o [] s' chooses case e = absurd case
expired_case s caller event (Some r) o (pick ∷ picks) s' chooses case e = expired_outcome s caller event (tuple_at s pick.tuple) (λ nochoice. absurd (row_there s r (tuple_at s pick.tuple) (back _ _ case.0) nochoice)) (ap is_expired_out (sym case.1) ∙ e)

-- Why.

-- why the event is answered Expired in that space
pub data Expires (s : Plain) (event : Event) : Type 0 where
  submits : (id : ℕ) → event ≡ Submit id → SubmitsLate id s → Expires s event
  answered : (id : ℕ) (r : Request) → asks_for event ≡ Some id → request_at s id ≡ Some r → was_expired r.state ≡ true → Expires s event
  has_ended : (id : ℕ) (last : Last) → asks_for event ≡ Some id → found s id ≡ HasEnded object.Notifier last → Expires s event

three : (a b c : Bool) → (a && (b && not c)) ≡ true → (a ≡ true) × (b ≡ true) × (c ≡ false)
three a b c e = (grind arith, grind arith, grind arith)

late_of : (s : Plain) (id : ℕ) (f : Found) → found s id ≡ f → submit_expires s f ≡ true → SubmitsLate id s
late_of s id (TheRequest r) is e =
    let parts = three (is_over s.clock r.deadline) (is_none r.renewer) (has_match s r) e in
    record { row = r; there = found-request s id r is; over = parts.0; alone = parts.1; unmatched = parts.2 }
late_of s id (TheTuple t) is e = cc
late_of s id (TheNotifier n) is e = cc
late_of s id (HasEnded k l) is e = cc
late_of s id IsRecycled is e = cc
late_of s id IsUnknown is e = cc

by_kind : (s : Plain) (event : Event) (id : ℕ) (k : ObjectKind) (l : Last) → asks_for event ≡ Some id → found s id ≡ HasEnded k l → is_notifier k ≡ true → Expires s event
by_kind s event id object.Entry l asks is e = cc
by_kind s event id object.Request l asks is e = cc
by_kind s event id object.Notifier l asks is e = has_ended id l asks is

asked_of : (s : Plain) (event : Event) (id : ℕ) (f : Found) → asks_for event ≡ Some id → found s id ≡ f → (collect_expires f || pop_expires f) ≡ true → Expires s event
asked_of s event id (TheRequest r) asks is e = answered id r asks (found-request s id r is) (left (was_expired r.state) e)
  where
    left : (a : Bool) → (a || false) ≡ true → a ≡ true
    left a e = grind arith
asked_of s event id (TheTuple t) asks is e = cc
asked_of s event id (TheNotifier n) asks is e = cc
asked_of s event id (HasEnded k l) asks is e = by_kind s event id k l asks is e
asked_of s event id IsRecycled asks is e = cc
asked_of s event id IsUnknown asks is e = cc

pub why_expired : (s : Plain) (event : Event) → may_expire s event ≡ true → Expires s event
why_expired s (Submit id) e = submits id refl (late_of s id (found s id) refl e)
why_expired s (Collect id) e = asked_of s (Collect id) id (found s id) refl refl (or_left _ _ e)
why_expired s (Withdraw id) e = asked_of s (Withdraw id) id (found s id) refl refl e
why_expired s (Pop id) e = asked_of s (Pop id) id (found s id) refl refl (or_right _ _ e)
why_expired s (Write v lease) e = cc
why_expired s (Reserve k pattern lease) e = cc
why_expired s (Settle id ok) e = cc
why_expired s (Cancel id) e = cc
why_expired s (Renew id lease) e = cc
why_expired s (Look id) e = cc
why_expired s (Value id) e = cc
why_expired s (ReadAll pattern) e = cc
why_expired s (Notify x pattern lease) e = cc
why_expired s NextAsk e = cc
why_expired s (Asked id life) e = cc
why_expired s Tick e = cc
why_expired s Shut e = cc
