-- An event is nothing exactly where its own case answers NotYet, or it is a Tick.
use Rattle.std.proofs.Common.{◌≡◌, ℕ, Bool, true, false, cond, ◌&&◌, ◌||◌, List, [], ◌∷◌, Option, Some, None, refl, sym, ◌∙◌, ap, arith}
use Rattle.std.specs.Prelude.{◌==◌, is_none}
use Rattle.std.specs.List.{list_all}
use Rattle.rinda_rules.specs.declared.object.ObjectKind.TheVariants as object
use Rattle.rinda_rules.specs.declared.event.Event.{Event}
use Rattle.rinda_rules.specs.declared.event.Event.TheVariants.{Write, Reserve, Submit, Collect, Settle, Withdraw, Cancel, Renew, Look, Value, ReadAll, Notify, Pop, NextAsk, Asked, Tick, Shut}
use Rattle.rinda_rules.specs.declared.out.Out.{Out}
use Rattle.rinda_rules.specs.declared.out.Out.TheVariants as out
use Rattle.rinda_rules.specs.declared.row.RequestState.{RequestState}
use Rattle.rinda_rules.specs.declared.row.RequestState.TheVariants as state
use Rattle.rinda_rules.specs.declared.plain.Entry.{Entry}
use Rattle.rinda_rules.specs.declared.plain.Request.{Request}
use Rattle.rinda_rules.specs.declared.plain.Notifier.{Notifier}
use Rattle.rinda_rules.specs.declared.plain.Hearing.{Hearing}
use Rattle.rinda_rules.specs.declared.plain.Hearing.TheVariants as hearing
use Rattle.rinda_rules.specs.declared.plain.Raised.{Raised}
use Rattle.rinda_rules.specs.declared.plain.Ended.{Ended}
use Rattle.rinda_rules.specs.Space.{Plain, Found, TheTuple, TheRequest, TheNotifier, HasEnded, IsRecycled, IsUnknown, found, found_among, request_at, tuple_at, notifier_at, ended_at, is_parked, is_running}
use Rattle.rinda_rules.specs.Queue.{queue}
use Rattle.rinda_rules.specs.Phases.{advanced, nothing_due}
use Rattle.rinda_rules.specs.Cases.{Outcome, answers, on_own, collect, pop, pop_queue, pop_empty, Asking, askings, least, ask, shut, shut_down, outcome}
use Rattle.rinda_rules.specs.Nothing.{waits_for, hears_nothing, is_empty, finds_nothing, is_nothing}
use Rattle.rinda_rules.specs.Sound.{is_kept_answer, has_answer}
use Rattle.rinda_effects.specs.Answers.{may_answer, is_tick, is_not_yet}
use Rattle.rinda_effects.proofs.Answered.{case_answers, has_answer_at}

-- what never answers NotYet
not_not_yet : (o : Out) (p : Out → Bool) → p out.NotYet ≡ false → p o ≡ true → is_not_yet o ≡ false
not_not_yet (out.Answer v) p e h = refl
not_not_yet out.Expired p e h = refl
not_not_yet out.Canceled p e h = refl
not_not_yet (out.Entry i) p e h = refl
not_not_yet (out.Reserved i) p e h = refl
not_not_yet (out.Parked i) p e h = refl
not_not_yet (out.Granted i v) p e h = refl
not_not_yet (out.All vs) p e h = refl
not_not_yet (out.Notifier i) p e h = refl
not_not_yet (out.Event v) p e h = refl
not_not_yet out.Closed p e h = refl
not_not_yet out.WouldWait p e h = refl
not_not_yet out.NotYet p e h = cc
not_not_yet (out.State f) p e h = refl
not_not_yet (out.Ask i r) p e h = refl
not_not_yet out.Plain p e h = refl
not_not_yet out.Recycled p e h = refl
not_not_yet out.Unknown p e h = refl
not_not_yet out.WrongKind p e h = refl
not_not_yet out.Shut p e h = refl

kept_not_yet : (o : Out) → is_kept_answer o ≡ true → is_not_yet o ≡ false
kept_not_yet o e = not_not_yet o is_kept_answer refl e

collect_not_yet : (s : Plain) (r : Request) (st : RequestState) → has_answer st ≡ true → is_parked st ≡ is_not_yet (collect s r st).out
collect_not_yet s r state.Reserved e = refl
collect_not_yet s r state.Parked e = refl
collect_not_yet s r (state.Granted t) e = refl
collect_not_yet s r (state.Answered o) e = sym (kept_not_yet o e)

own_not_yet : (s : Plain) (caller : ℕ) (f : Found) → ((r : Request) → f ≡ TheRequest r → has_answer r.state ≡ true) → waits_for caller f ≡ is_not_yet (on_own s caller (λ r. collect s r r.state) f).out
own_not_yet s caller (TheRequest r) h = by_test (r.caller == caller)
  where
    by_test : (b : Bool) → (b && is_parked r.state) ≡ is_not_yet (cond {A = Outcome} b (collect s r r.state) (answers s out.WrongKind)).out
    by_test true = collect_not_yet s r r.state (h r refl)
    by_test false = refl
own_not_yet s caller (TheTuple t) h = refl
own_not_yet s caller (TheNotifier n) h = refl
own_not_yet s caller (HasEnded k l) h = refl
own_not_yet s caller IsRecycled h = refl
own_not_yet s caller IsUnknown h = refl

empty_not_yet : (s : Plain) (n : Notifier) (st : Hearing) → (is_running st && true) ≡ is_not_yet (pop_empty s n out.NotYet st).out
empty_not_yet s n hearing.Running = refl
empty_not_yet s n (hearing.Closed l until) = refl

queue_not_yet : (s : Plain) (n : Notifier) (q : List Raised) → (is_running n.state && is_empty q) ≡ is_not_yet (pop_queue s n out.NotYet q).out
queue_not_yet s n [] = empty_not_yet s n n.state
queue_not_yet s n (x ∷ xs) = none (is_running n.state)
  where
    none : (b : Bool) → (b && false) ≡ false
    none b = grind arith

pop_not_yet : (s : Plain) (f : Found) → hears_nothing s f ≡ is_not_yet (pop s f).out
pop_not_yet s (TheRequest r) = refl
pop_not_yet s (TheTuple t) = refl
pop_not_yet s (TheNotifier n) = queue_not_yet s n (queue n s.events)
pop_not_yet s (HasEnded object.Entry l) = refl
pop_not_yet s (HasEnded object.Request l) = refl
pop_not_yet s (HasEnded object.Notifier l) = refl
pop_not_yet s IsRecycled = refl
pop_not_yet s IsUnknown = refl

ask_not_yet : (s : Plain) (a : Option Asking) → is_none a ≡ is_not_yet (ask s a).out
ask_not_yet s None = refl
ask_not_yet s (Some a) = refl

shut_not_yet : (s : Plain) → s.shut ≡ is_not_yet (shut s).out
shut_not_yet s = by_test s.shut
  where
    by_test : (b : Bool) → b ≡ is_not_yet (cond {A = Outcome} b (answers s out.NotYet) (answers (shut_down s) out.Plain)).out
    by_test true = refl
    by_test false = refl

-- in one space
finds_is : (s : Plain) (caller : ℕ) (event : Event) (choice : Option Entry) → list_all (λ r. has_answer r.state) s.requests ≡ true → finds_nothing s caller event ≡ (is_tick event || is_not_yet (outcome s caller event choice).out)
finds_is s caller (Write v lease) choice e = sym (not_not_yet _ (may_answer (Write v lease)) refl (case_answers s caller (Write v lease) choice e))
finds_is s caller (Reserve k pattern lease) choice e = sym (not_not_yet _ (may_answer (Reserve k pattern lease)) refl (case_answers s caller (Reserve k pattern lease) choice e))
finds_is s caller (Submit id) choice e = sym (not_not_yet _ (may_answer (Submit id)) refl (case_answers s caller (Submit id) choice e))
finds_is s caller (Collect id) choice e = own_not_yet s caller (found s id) (has_answer_at s id e)
finds_is s caller (Settle id ok) choice e = sym (not_not_yet _ (may_answer (Settle id ok)) refl (case_answers s caller (Settle id ok) choice e))
finds_is s caller (Withdraw id) choice e = sym (not_not_yet _ (may_answer (Withdraw id)) refl (case_answers s caller (Withdraw id) choice e))
finds_is s caller (Cancel id) choice e = sym (not_not_yet _ (may_answer (Cancel id)) refl (case_answers s caller (Cancel id) choice e))
finds_is s caller (Renew id lease) choice e = sym (not_not_yet _ (may_answer (Renew id lease)) refl (case_answers s caller (Renew id lease) choice e))
finds_is s caller (Look id) choice e = sym (not_not_yet _ (may_answer (Look id)) refl (case_answers s caller (Look id) choice e))
finds_is s caller (Value id) choice e = sym (not_not_yet _ (may_answer (Value id)) refl (case_answers s caller (Value id) choice e))
finds_is s caller (ReadAll pattern) choice e = refl
finds_is s caller (Notify v pattern lease) choice e = sym (not_not_yet _ (may_answer (Notify v pattern lease)) refl (case_answers s caller (Notify v pattern lease) choice e))
finds_is s caller (Pop id) choice e = pop_not_yet s (found s id)
finds_is s caller NextAsk choice e = ask_not_yet s (least (askings s))
finds_is s caller (Asked id life) choice e = sym (not_not_yet _ (may_answer (Asked id life)) refl (case_answers s caller (Asked id life) choice e))
finds_is s caller Tick choice e = refl
finds_is s caller Shut choice e = shut_not_yet s

-- the clock changes nothing of what an id names
among_advanced : (s : Plain) (at id : ℕ) (r : Option Request) (t : Option Entry) (n : Option Notifier) (e : Option Ended) → found_among (advanced s at) id r t n e ≡ found_among s id r t n e
among_advanced s at id (Some r) t n e = refl
among_advanced s at id None (Some t) n e = refl
among_advanced s at id None None (Some n) e = refl
among_advanced s at id None None None (Some e) = refl
among_advanced s at id None None None None = refl

pub found_advanced : (s : Plain) (at id : ℕ) → found (advanced s at) id ≡ found s id
found_advanced s at id = among_advanced s at id (request_at s id) (tuple_at s id) (notifier_at s id) (ended_at s id)

hears_advanced : (s : Plain) (at : ℕ) (f : Found) → hears_nothing (advanced s at) f ≡ hears_nothing s f
hears_advanced s at (TheRequest r) = refl
hears_advanced s at (TheTuple t) = refl
hears_advanced s at (TheNotifier n) = refl
hears_advanced s at (HasEnded k l) = refl
hears_advanced s at IsRecycled = refl
hears_advanced s at IsUnknown = refl

finds_advanced : (s : Plain) (caller at : ℕ) (event : Event) → finds_nothing s caller event ≡ finds_nothing (advanced s at) caller event
finds_advanced s caller at (Write v lease) = refl
finds_advanced s caller at (Reserve k pattern lease) = refl
finds_advanced s caller at (Submit id) = refl
finds_advanced s caller at (Collect id) = sym (ap (waits_for caller) (found_advanced s at id))
finds_advanced s caller at (Settle id ok) = refl
finds_advanced s caller at (Withdraw id) = refl
finds_advanced s caller at (Cancel id) = refl
finds_advanced s caller at (Renew id lease) = refl
finds_advanced s caller at (Look id) = refl
finds_advanced s caller at (Value id) = refl
finds_advanced s caller at (ReadAll pattern) = refl
finds_advanced s caller at (Notify v pattern lease) = refl
finds_advanced s caller at (Pop id) = sym (ap (hears_nothing (advanced s at)) (found_advanced s at id) ∙ hears_advanced s at (found s id))
finds_advanced s caller at NextAsk = refl
finds_advanced s caller at (Asked id life) = refl
finds_advanced s caller at Tick = refl
finds_advanced s caller at Shut = refl

pub nothing_is_not_yet : (s : Plain) (caller at : ℕ) (event : Event) (choice : Option Entry) → list_all (λ r. has_answer r.state) s.requests ≡ true → is_nothing s caller at event ≡ (nothing_due (advanced s at) && (is_tick event || is_not_yet (outcome (advanced s at) caller event choice).out))
nothing_is_not_yet s caller at event choice e = ap (λ (b : Bool). nothing_due (advanced s at) && b) (finds_advanced s caller at event ∙ finds_is (advanced s at) caller event choice e)
