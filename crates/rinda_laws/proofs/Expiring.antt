-- Which turn answered a request Expired.
use Rattle.std.proofs.Common.{◌≡◌, ℕ, Bool, true, false, cond, ◌&&◌, List, [], ◌∷◌, ◌++◌, map, Option, Some, None, refl, sym, ◌∙◌, ap, subst, arith}
use Rattle.std.specs.Prelude.{◌==◌, is_none}
use Rattle.std.proofs.lemmas.Bool.Decides.{nat_tests}
use Rattle.drb_tree.specs.declared.Remote.{Remote}
use Rattle.rinda_tuple.specs.declared.tuple.Tuple.{Tuple}
use Rattle.rinda_tuple.specs.declared.lease.Lease.{Lease}
use Rattle.rinda_tuple.specs.Lives.{deadline}
use Rattle.rinda_rules.specs.declared.object.Doubt.TheVariants as doubt
use Rattle.rinda_rules.specs.declared.object.Last.TheVariants as last
use Rattle.rinda_rules.specs.declared.event.Kind.{Kind}
use Rattle.rinda_rules.specs.declared.event.Kind.TheVariants as kind
use Rattle.rinda_rules.specs.declared.event.Event.{Event}
use Rattle.rinda_rules.specs.declared.event.Event.TheVariants.{Write, Reserve, Submit, Collect, Settle, Withdraw, Cancel, Renew, Look, Value, ReadAll, Notify, Pop, NextAsk, Asked, Tick, Shut}
use Rattle.rinda_rules.specs.declared.out.Out.{Out}
use Rattle.rinda_rules.specs.declared.out.Out.TheVariants as out
use Rattle.rinda_rules.specs.declared.row.RequestState.{RequestState}
use Rattle.rinda_rules.specs.declared.row.RequestState.TheVariants as state
use Rattle.rinda_rules.specs.declared.plain.Entry.{Entry}
use Rattle.rinda_rules.specs.declared.plain.Request.{Request}
use Rattle.rinda_rules.specs.declared.plain.Notifier.{Notifier}
use Rattle.rinda_rules.specs.declared.plain.Hearing.{Hearing}
use Rattle.rinda_rules.specs.declared.plain.Hearing.TheVariants as hearing
use Rattle.rinda_rules.specs.declared.plain.Raised.{Raised}
use Rattle.rinda_rules.specs.declared.turn.Pick.{Pick}
use Rattle.rinda_rules.specs.declared.turn.Turn.{Turn}
use Rattle.rinda_rules.specs.Rows.{row_of, changed, without}
use Rattle.rinda_rules.specs.Space.{Plain, Found, TheTuple, TheRequest, TheNotifier, HasEnded, IsRecycled, IsUnknown, found, request_at, tuple_at, is_over, renewer_of, is_waiting, is_reserved, is_parked, is_due_request, is_read}
use Rattle.rinda_tuple.specs.Matching.{matches}
use Rattle.rinda_tuple.specs.Tuples.{value_of}
use Rattle.rinda_rules.specs.Queue.{queue}
use Rattle.rinda_rules.specs.Sound.{Sound}
use Rattle.rinda_rules.proofs.AtOnce.{aging_at_once}
use Rattle.rinda_rules.proofs.Keeping.{chosen_none, chosen_match, with_new_request, with_new_notifier}
use Rattle.rinda_rules.specs.Phases.{advanced, aged, in_state, request_in, request_ended, served, served_as, served_rows, Serve, with_tuple, with_request, with_notifier}
use Rattle.rinda_rules.specs.AtOnce.{aged_at_once, aged_request}
use Rattle.rinda_rules.specs.Cases.{Outcome, answers, minted, new_tuple, new_request, read_by, written, written_over, write_tuple, shut_request, shut_down, on_own, submit, collect_served, collect, settle, settle_tuple, pop_empty, pop_queue, pop, withdraw_request, withdraw, cancel_tuple, cancel_request, cancel_notifier, cancel, renewed_request, renew_request, renew_notifier, renew_with, look, value, Asking, askings, least, asked_doubt, ask, is_asked, told, renewed_tuple, renewed_notifier, outcome}
use Rattle.rinda_rules.specs.Steps.{Case, Step, chooser, found_by}
use Rattle.rinda_rules.specs.Fixed.{after}
use Rattle.rinda_rules.specs.Legal.{plain_from, LegalFrom}
use Rattle.rinda_rules.proofs.Lists.{row_map}
use Rattle.rinda_laws.specs.Decides.{ExpiredBecause, late, decided, ended, RunsOut, choice_of, left_by, DecidesSo, as_it_comes, as_it_leaves, Decided}
use Rattle.rinda_laws.specs.Starting.{IsStart}
use Rattle.rinda_laws.proofs.Holding.{settle_keeps}
use Rattle.rinda_laws.proofs.Deciding.{is_expired_out, was_expired, Expires, submits, answered, has_ended, why_expired, expired_case}
use Rattle.rinda_rules.proofs.Sounding.{sound-advanced, sound-found_by, sound-outcome}
use Rattle.rinda_laws.proofs.Turning.{sound_before, sound_Step, LegalFrom-front, last_step}

-- the row with that id was answered Expired

abbrev expired_row : Option Request → Bool
expired_row None = false
expired_row (Some r) = was_expired r.state

abbrev expired_at : ℕ → List Request → Bool
expired_at id rs = expired_row (row_of (λ r. r.id) id rs)

-- a change that answers nobody Expired
record Answerless (f : Request → Request) : Type 0 where
  ids : (r : Request) → (f r).id ≡ r.id
  states : (r : Request) → was_expired (f r).state ≡ true → was_expired r.state ≡ true

map_back : (id : ℕ) (f : Request → Request) (rs : List Request) → Answerless f → expired_at id (map f rs) ≡ true → expired_at id rs ≡ true
map_back id f [] fine e = e
map_back id f (x ∷ xs) fine e = by_test (x.id == id) ((f x).id == id) refl refl (map_back id f xs fine)
  where
    by_test : (b c : Bool) → x.id == id ≡ b → (f x).id == id ≡ c → (expired_at id (map f xs) ≡ true → expired_at id xs ≡ true) → expired_at id (x ∷ xs) ≡ true
    by_test true c is was further = grind (arith, nat_tests, fine.ids x, fine.states x)
    by_test false c is was further = grind (arith, nat_tests, fine.ids x, further)

changed_back : (id of : ℕ) (f : Request → Request) (rs : List Request) → Answerless f → expired_at id (changed (λ r. r.id) of f rs) ≡ true → expired_at id rs ≡ true
changed_back id of f rs fine e = map_back id (λ r. cond {A = Request} (r.id == of) (f r) r) rs (record { ids = λ r. ids r (r.id == of); states = λ r. states r (r.id == of) }) e
  where
    ids : (r : Request) (b : Bool) → (cond {A = Request} b (f r) r).id ≡ r.id
    ids r true = fine.ids r
    ids r false = refl

    states : (r : Request) (b : Bool) → was_expired (cond {A = Request} b (f r) r).state ≡ true → was_expired r.state ≡ true
    states r true e = fine.states r e
    states r false e = e

push_back : (id : ℕ) (x : Request) (rs : List Request) → was_expired x.state ≡ false → expired_at id (rs ++ x ∷ []) ≡ true → expired_at id rs ≡ true
push_back id x [] isnt e = by_test (x.id == id) e
  where
    by_test : (b : Bool) → expired_row (cond {A = Option Request} b (Some x) None) ≡ true → false ≡ true
    by_test true e = sym isnt ∙ e
    by_test false e = e
push_back id x (y ∷ ys) isnt e = grind (arith, nat_tests, push_back id x ys isnt)

gone : (id : ℕ) (rs : List Request) → row_of (λ r. r.id) id (without (λ r. r.id) id rs) ≡ None
gone id [] = refl
gone id (x ∷ xs) = grind (arith, nat_tests, gone id xs)

without_back : (id of : ℕ) (rs : List Request) → expired_at id (without (λ r. r.id) of rs) ≡ true → expired_at id rs ≡ true
without_back id of [] e = e
without_back id of (x ∷ xs) e = by_test (x.id == of) refl (without_back id of xs)
  where
    by_test : (b : Bool) → x.id == of ≡ b → (expired_at id (without (λ r. r.id) of xs) ≡ true → expired_at id xs ≡ true) → expired_at id (x ∷ xs) ≡ true
    by_test true is further = grind (arith, nat_tests, further, gone id xs)
    by_test false is further = grind (arith, nat_tests, further)

-- the changes that a turn makes, but for aging

into : (st : RequestState) → was_expired st ≡ false → Answerless (in_state st)
into st isnt = record { ids = λ r. refl; states = λ r e. absurd (contra _ e isnt) }
  where
    contra : (b : Bool) → b ≡ true → b ≡ false → ⊥
    contra b x y = grind arith

same_state : (f : Request → Request) → ((r : Request) → (f r).id ≡ r.id) → ((r : Request) → (f r).state ≡ r.state) → Answerless f
same_state f ids states = record { ids = ids; states = λ r e. ap was_expired (sym (states r)) ∙ e }

reads : (v : Tuple) → Answerless (read_by v)
reads v = record { ids = λ r. ids r (is_read r.kind && (is_waiting r && matches r.pattern v)); states = λ r. states r (is_read r.kind && (is_waiting r && matches r.pattern v)) }
  where
    ids : (r : Request) (b : Bool) → (cond {A = Request} b (in_state (state.Answered (out.Answer (value_of v))) r) r).id ≡ r.id
    ids r true = refl
    ids r false = refl

    states : (r : Request) (b : Bool) → was_expired (cond {A = Request} b (in_state (state.Answered (out.Answer (value_of v))) r) r).state ≡ true → was_expired r.state ≡ true
    states r true e = cc
    states r false e = e

shuts : Answerless shut_request
shuts = record { ids = λ r. ids r (is_reserved r.state) (is_parked r.state); states = λ r. states r (is_reserved r.state) (is_parked r.state) }
  where
    ids : (r : Request) (a b : Bool) → (cond {A = Request} a (record r { marked = true }) (cond {A = Request} b (in_state (state.Answered out.Canceled) r) r)).id ≡ r.id
    ids r true b = refl
    ids r false true = refl
    ids r false false = refl

    states : (r : Request) (a b : Bool) → was_expired (cond {A = Request} a (record r { marked = true }) (cond {A = Request} b (in_state (state.Answered out.Canceled) r) r)).state ≡ true → was_expired r.state ≡ true
    states r true b e = e
    states r false true e = cc
    states r false false e = e

module _ (id : ℕ) where
  -- it was answered so before, where it is so in that space
  abbrev Before : Plain → Plain → Type 0
  Before s s' = expired_at id s'.requests ≡ true → expired_at id s.requests ≡ true

  served_back : (kd : Kind) (r : Request) (t : Entry) (s : Plain) → Before s (served_as kd r t s)
  served_back kind.Read r t s e = changed_back id r.id (in_state (state.Answered (out.Answer (value_of t.value)))) s.requests (into _ refl) e
  served_back kind.Take r t s e = changed_back id r.id (in_state (state.Answered (out.Answer (value_of t.value)))) s.requests (into _ refl) e
  served_back kind.Move r t s e = changed_back id r.id (in_state (state.Granted t.id)) s.requests (into _ refl) e

  rows_back : (s : Plain) (r : Option Request) (t : Option Entry) → Before s (served_rows s r t)
  rows_back s None t e = e
  rows_back s (Some r) None e = e
  rows_back s (Some r) (Some t) e = served_back r.kind r t s e

  serve_back : (s : Plain) (picks : List Pick) (s' : Plain) → Serve s picks s' → Before s s'
  serve_back s [] s' serve e = subst (λ (p : Plain). expired_at id p.requests ≡ true) serve.1 e
  serve_back s (pick ∷ picks) s' serve e = rows_back s (request_at s pick.request) (tuple_at s pick.tuple) (serve_back (served s pick) picks s' serve.1 e)

  on_own_back : (s : Plain) (caller : ℕ) (case : Request → Outcome) (f : Found) → ((r : Request) → Before s (case r).after) → Before s (on_own s caller case f).after
  on_own_back s caller case (TheTuple t) each e = e
  on_own_back s caller case (TheNotifier n) each e = e
  on_own_back s caller case (HasEnded kd l) each e = e
  on_own_back s caller case IsRecycled each e = e
  on_own_back s caller case IsUnknown each e = e
  on_own_back s caller case (TheRequest r) each e = by_test (r.caller == caller) e
    where
      by_test : (b : Bool) → Before s (cond {A = Outcome} b (case r) (answers s out.WrongKind)).after
      by_test true e = each r e
      by_test false e = e

  submit_back : (s : Plain) (r : Request) (choice : Option Entry) (st : RequestState) → Before s (submit s r choice st).after
  submit_back s r None state.Reserved e = by_tests r.marked (is_over s.clock r.deadline && is_none r.renewer) e
    where
      by_tests : (a b : Bool) → Before s (cond {A = Outcome} a (answers (request_ended last.Canceled r.id s) out.Canceled) (cond {A = Outcome} b (answers (request_ended last.Expired r.id s) out.Expired) (answers (request_in r.id state.Parked s) (out.Parked r.id)))).after
      by_tests true b e = without_back id r.id s.requests e
      by_tests false true e = without_back id r.id s.requests e
      by_tests false false e = changed_back id r.id (in_state state.Parked) s.requests (into _ refl) e
  submit_back s r (Some t) state.Reserved e = by_kind r.kind e
    where
      by_kind : (kd : Kind) → Before s (collect_served (served_as kd r t s) r t kd).after
      by_kind kind.Read e = served_back kind.Read r t s (without_back id r.id (served_as kind.Read r t s).requests e)
      by_kind kind.Take e = served_back kind.Take r t s (without_back id r.id (served_as kind.Take r t s).requests e)
      by_kind kind.Move e = served_back kind.Move r t s e
  submit_back s r choice state.Parked e = e
  submit_back s r choice (state.Granted t) e = e
  submit_back s r choice (state.Answered o) e = e

  collect_back : (s : Plain) (r : Request) (st : RequestState) → Before s (collect s r st).after
  collect_back s r state.Reserved e = e
  collect_back s r state.Parked e = e
  collect_back s r (state.Granted t) e = e
  collect_back s r (state.Answered o) e = without_back id r.id s.requests e

  settle_back : (s : Plain) (r : Request) (ok : Bool) (st : RequestState) → Before s (settle s r ok st).after
  settle_back s r ok state.Reserved e = e
  settle_back s r ok state.Parked e = e
  settle_back s r ok (state.Granted t) e = subst (λ (rs : List Request). expired_at id rs ≡ true) (settle_keeps ok (tuple_at s t) s) (without_back id r.id (settle_tuple ok (tuple_at s t) s).requests e)
  settle_back s r ok (state.Answered o) e = e

  queue_back : (s : Plain) (n : Notifier) (nothing : Out) (es : List Raised) → Before s (pop_queue s n nothing es).after
  queue_back s n nothing [] e = by_state n.state e
    where
      by_state : (st : Hearing) → Before s (pop_empty s n nothing st).after
      by_state hearing.Running e = e
      by_state (hearing.Closed l u) e = e
  queue_back s n nothing (x ∷ xs) e = e

  withdraw_request_back : (s : Plain) (r : Request) (st : RequestState) → Before s (withdraw_request s r st).after
  withdraw_request_back s r state.Reserved e = without_back id r.id s.requests e
  withdraw_request_back s r state.Parked e = without_back id r.id s.requests e
  withdraw_request_back s r (state.Granted t) e = e
  withdraw_request_back s r (state.Answered o) e = without_back id r.id s.requests e

  withdraw_back : (s : Plain) (caller : ℕ) (f : Found) → Before s (withdraw s caller f).after
  withdraw_back s caller (TheRequest r) e = by_test (r.caller == caller) e
    where
      by_test : (b : Bool) → Before s (cond {A = Outcome} b (withdraw_request s r r.state) (answers s out.WrongKind)).after
      by_test true e = withdraw_request_back s r r.state e
      by_test false e = e
  withdraw_back s caller (TheTuple t) e = e
  withdraw_back s caller (TheNotifier n) e = queue_back s n out.WouldWait (queue n s.events) e
  withdraw_back s caller (HasEnded kd l) e = e
  withdraw_back s caller IsRecycled e = e
  withdraw_back s caller IsUnknown e = e

  pop_back : (s : Plain) (f : Found) → Before s (pop s f).after
  pop_back s (TheRequest r) e = e
  pop_back s (TheTuple t) e = e
  pop_back s (TheNotifier n) e = queue_back s n out.NotYet (queue n s.events) e
  pop_back s (HasEnded kd l) e = e
  pop_back s IsRecycled e = e
  pop_back s IsUnknown e = e

  cancel_request_back : (s : Plain) (r : Request) (st : RequestState) → Before s (cancel_request s r st)
  cancel_request_back s r state.Reserved e = changed_back id r.id (λ r. record r { marked = true }) s.requests (same_state _ (λ r. refl) (λ r. refl)) e
  cancel_request_back s r state.Parked e = changed_back id r.id (in_state (state.Answered out.Canceled)) s.requests (into _ refl) e
  cancel_request_back s r (state.Granted t) e = e
  cancel_request_back s r (state.Answered o) e = e

  cancel_back : (s : Plain) (f : Found) → Before s (cancel s f).after
  cancel_back s (TheRequest r) e = cancel_request_back s r r.state e
  cancel_back s (TheTuple t) e = by_holder t.holder e
    where
      by_holder : (o : Option ℕ) → Before s (cancel_tuple s t o)
      by_holder None e = e
      by_holder (Some h) e = e
  cancel_back s (TheNotifier n) e = by_state n.state e
    where
      by_state : (st : Hearing) → Before s (cancel_notifier s n st)
      by_state hearing.Running e = e
      by_state (hearing.Closed l u) e = e
  cancel_back s (HasEnded kd l) e = e
  cancel_back s IsRecycled e = e
  cancel_back s IsUnknown e = e

  renewed_back : (of : ℕ) (d : Option ℕ) (renewer : Option Remote) (s : Plain) → Before s (with_request of (renewed_request d renewer) s)
  renewed_back of d renewer s e = changed_back id of (renewed_request d renewer) s.requests (same_state _ (λ r. refl) (λ r. refl)) e

  renew_back : (s : Plain) (d : Option ℕ) (renewer : Option Remote) (f : Found) → Before s (renew_with s d renewer f).after
  renew_back s d renewer (TheRequest r) e = by_state r.state e
    where
      by_state : (st : RequestState) → Before s (renew_request s d renewer r st)
      by_state state.Reserved e = renewed_back r.id d renewer s e
      by_state state.Parked e = renewed_back r.id d renewer s e
      by_state (state.Granted t) e = e
      by_state (state.Answered o) e = e
  renew_back s d renewer (TheTuple t) e = e
  renew_back s d renewer (TheNotifier n) e = by_state n.state e
    where
      by_state : (st : Hearing) → Before s (renew_notifier s d renewer n st)
      by_state hearing.Running e = e
      by_state (hearing.Closed l u) e = e
  renew_back s d renewer (HasEnded kd l) e = e
  renew_back s d renewer IsRecycled e = e
  renew_back s d renewer IsUnknown e = e

  told_back : (s : Plain) (d : Option ℕ) (f : Found) → Before s (told s d f).after
  told_back s d (TheRequest r) e = by_test (is_asked r.doubt) e
    where
      by_test : (b : Bool) → Before s (cond {A = Plain} b (with_request r.id (renewed_request d (renewer_of d r.renewer s.clock)) s) s)
      by_test true e = renewed_back r.id d (renewer_of d r.renewer s.clock) s e
      by_test false e = e
  told_back s d (TheTuple t) e = by_test (is_asked t.doubt) e
    where
      by_test : (b : Bool) → Before s (cond {A = Plain} b (with_tuple t.id (renewed_tuple d (renewer_of d t.renewer s.clock)) s) s)
      by_test true e = e
      by_test false e = e
  told_back s d (TheNotifier n) e = by_test (is_asked n.doubt) e
    where
      by_test : (b : Bool) → Before s (cond {A = Plain} b (with_notifier n.id (renewed_notifier d (renewer_of d n.renewer s.clock)) s) s)
      by_test true e = e
      by_test false e = e
  told_back s d (HasEnded kd l) e = e
  told_back s d IsRecycled e = e
  told_back s d IsUnknown e = e

  ask_back : (s : Plain) (a : Option Asking) → Before s (ask s a).after
  ask_back s None e = e
  ask_back s (Some a) e = changed_back id a.id (λ r. record r { doubt = asked_doubt r.doubt }) s.requests (same_state _ (λ r. refl) (λ r. refl)) e

  look_back : (s : Plain) (f : Found) → Before s (look s f).after
  look_back s (TheRequest r) e = e
  look_back s (TheTuple t) e = e
  look_back s (TheNotifier n) e = e
  look_back s (HasEnded kd l) e = e
  look_back s IsRecycled e = e
  look_back s IsUnknown e = e

  value_back : (s : Plain) (f : Found) → Before s (value s f).after
  value_back s (TheRequest r) e = e
  value_back s (TheTuple t) e = e
  value_back s (TheNotifier n) e = e
  value_back s (HasEnded kd l) e = e
  value_back s IsRecycled e = e
  value_back s IsUnknown e = e

  -- where the space isn't shut
  unless_back : (b : Bool) (s : Plain) (o : Outcome) → Before s o.after → Before s (cond {A = Outcome} b (answers s out.Shut) o).after
  unless_back true s o h e = e
  unless_back false s o h e = h e

  write_tuple_back : (s : Plain) (v : Tuple) (lease : Lease) → Before s (write_tuple s (new_tuple s v lease))
  write_tuple_back s v lease e = by_test (is_over s.clock (deadline lease.life s.clock)) e
    where
      by_test : (b : Bool) → Before s (cond {A = Plain} b (written_over (new_tuple s v lease) (minted s)) (written (new_tuple s v lease) (minted s)))
      by_test true e = map_back id (read_by v) s.requests (reads v) e
      by_test false e = e

  shut_back : (s : Plain) (b : Bool) → Before s (cond {A = Outcome} b (answers s out.NotYet) (answers (shut_down s) out.Plain)).after
  shut_back s true e = e
  shut_back s false e = map_back id shut_request s.requests shuts e

  -- no event's own case answers a request Expired that stays
  outcome_back : (s : Plain) (caller : ℕ) (event : Event) (choice : Option Entry) → Before s (outcome s caller event choice).after
  outcome_back s caller (Write v lease) choice e = unless_back s.shut s (answers (write_tuple s (new_tuple s v lease)) (out.Entry s.next)) (write_tuple_back s v lease) e
  outcome_back s caller (Reserve kd pattern lease) choice e = unless_back s.shut s (answers (with_new_request s caller kd pattern lease) (out.Reserved s.next)) (push_back id (new_request s caller kd pattern lease) s.requests refl) e
  outcome_back s caller (Submit i) choice e = on_own_back s caller (λ r. submit s r choice r.state) (found s i) (λ r. submit_back s r choice r.state) e
  outcome_back s caller (Collect i) choice e = on_own_back s caller (λ r. collect s r r.state) (found s i) (λ r. collect_back s r r.state) e
  outcome_back s caller (Settle i ok) choice e = on_own_back s caller (λ r. settle s r ok r.state) (found s i) (λ r. settle_back s r ok r.state) e
  outcome_back s caller (Withdraw i) choice e = withdraw_back s caller (found s i) e
  outcome_back s caller (Cancel i) choice e = cancel_back s (found s i) e
  outcome_back s caller (Renew i lease) choice e = renew_back s (deadline lease.life s.clock) (renewer_of (deadline lease.life s.clock) lease.renewer s.clock) (found s i) e
  outcome_back s caller (Look i) choice e = look_back s (found s i) e
  outcome_back s caller (Value i) choice e = value_back s (found s i) e
  outcome_back s caller (ReadAll pattern) choice e = e
  outcome_back s caller (Notify x pattern lease) choice e = unless_back s.shut s (answers (with_new_notifier s x pattern lease) (out.Notifier s.next)) (λ e. e) e
  outcome_back s caller (Pop i) choice e = pop_back s (found s i) e
  outcome_back s caller NextAsk choice e = ask_back s (least (askings s)) e
  outcome_back s caller (Asked i life) choice e = told_back s (deadline life s.clock) (found s i) e
  outcome_back s caller Tick choice e = e
  outcome_back s caller Shut choice e = shut_back s s.shut e

  -- Aging answers so those that run out.

  data Aged (s : Plain) : Type 0 where
    already : expired_at id s.requests ≡ true → Aged s
    now : RunsOut id s → Aged s

  row_map_none : (f : Request → Request) (rs : List Request) → ((r : Request) → (f r).id ≡ r.id) → row_of (λ r. r.id) id rs ≡ None → row_of (λ r. r.id) id (map f rs) ≡ None
  row_map_none f [] ids e = refl
  row_map_none f (x ∷ xs) ids e = grind (arith, nat_tests, ids x, row_map_none f xs ids)

  aged_id : (at : ℕ) (r : Request) → (aged_request at r).id ≡ r.id
  aged_id at r = grind (arith, nat_tests)

  runs_out : (s : Plain) (r : Request) → request_at s id ≡ Some r → is_due_request s.clock r ≡ true → is_none r.renewer ≡ true → RunsOut id s
  runs_out s r there due alone = record { row = r; there = there; waits = one _ _ due; over = two _ _ due; alone = alone }
    where
      one : (a b : Bool) → (a && b) ≡ true → a ≡ true
      one a b e = grind arith

      two : (a b : Bool) → (a && b) ≡ true → b ≡ true
      two a b e = grind arith

  at_once_back : (s : Plain) → expired_at id (aged_at_once s).requests ≡ true → Aged s
  at_once_back s e = by_row (request_at s id) refl
    where
      here : (r : Request) → request_at s id ≡ Some r → was_expired r.state ≡ true → Aged s
      here r there x = already (ap expired_row there ∙ x)

      by_tests : (r : Request) (due alone : Bool) → request_at s id ≡ Some r → is_due_request s.clock r ≡ due → is_none r.renewer ≡ alone → was_expired (cond {A = Request} due (cond {A = Request} alone (record r { state = state.Answered out.Expired }) (record r { doubt = doubt.Waiting })) r).state ≡ true → Aged s
      by_tests r true true there due alone x = now (runs_out s r there due alone)
      by_tests r true false there due alone x = here r there x
      by_tests r false alone there due none x = here r there x

      by_row : (o : Option Request) → request_at s id ≡ o → Aged s
      by_row None there = absurd (contra (sym (ap expired_row (row_map_none (aged_request s.clock) s.requests (aged_id s.clock) there)) ∙ e))
        where
          contra : false ≡ true → ⊥
          contra e = cc
      by_row (Some r) there = by_tests r (is_due_request s.clock r) (is_none r.renewer) there refl refl (sym (ap expired_row (row_map (λ (r : Request). r.id) id (aged_request s.clock) s.requests r (aged_id s.clock) there)) ∙ e)

  aged_back : (s : Plain) → Sound s → expired_at id (aged s).requests ≡ true → Aged s
  aged_back s sound e = at_once_back s (subst (λ (p : Plain). expired_at id p.requests ≡ true) (aging_at_once s sound) e)

  -- A turn.

  data Told (s : Plain) (turn : Turn) : Type 0 where
    so_before : expired_at id s.requests ≡ true → Told s turn
    so_now : DecidesSo id s turn → Told s turn

  case_back : (s : Plain) (caller : ℕ) (event : Event) (r : Option Request) (o : Out) (picks : List Pick) (s' : Plain) → chooser s caller event ≡ r → Case s caller event r o picks s' → Sound s → expired_at id s'.requests ≡ true → Aged (outcome s caller event (choice_of s r picks)).after
  case_back s caller event None o picks s' chooses case sound e = aged_back _ (sound-outcome s caller event None (chosen_none s event) sound) (serve_back _ picks s' case.1 e)
  case_back s caller event (Some r) o [] s' chooses case sound e = absurd case
  case_back s caller event (Some r) o (pick ∷ picks) s' chooses case sound e = aged_back _ (sound-outcome s caller event (tuple_at s pick.tuple) (chosen_match s caller event r pick chooses case.0) sound) (serve_back _ picks s' case.2 e)

  -- where it is so as the event finds the space
  found_back : (s : Plain) (turn : Turn) → Sound s → expired_at id (found_by s turn.at).requests ≡ true → Told s turn
  found_back s turn sound e = by_age (aged_back (advanced s turn.at) (sound-advanced s turn.at sound) e)
    where
      by_age : Aged (advanced s turn.at) → Told s turn
      by_age (already x) = so_before x
      by_age (now ran) = so_now (as_it_comes ran)

  step_back : (s : Plain) (turn : Turn) (s' : Plain) → Step s turn.caller turn.at turn.event turn.out turn.picks s' → Sound s → expired_at id s'.requests ≡ true → Told s turn
  step_back s turn s' step sound e = by_age (case_back (found_by s turn.at) turn.caller turn.event (chooser (found_by s turn.at) turn.caller turn.event) turn.out turn.picks s' refl step (sound-found_by s turn.at sound) e)
    where
      by_age : Aged (left_by s turn) → Told s turn
      by_age (already x) = found_back s turn sound (outcome_back (found_by s turn.at) turn.caller turn.event (choice_of (found_by s turn.at) (chooser (found_by s turn.at) turn.caller turn.event) turn.picks) x)
      by_age (now ran) = so_now (as_it_leaves ran)

  -- Histories.

  record DecidedFrom (s : Plain) (h : List Turn) : Type 0 where
    front : List Turn
    turn : Turn
    later : List Turn
    parts : h ≡ front ++ turn ∷ later
    decides : DecidesSo id (plain_from s front) turn

  data ToldFrom (s : Plain) (h : List Turn) : Type 0 where
    at_first : expired_at id s.requests ≡ true → ToldFrom s h
    by_turn : DecidedFrom s h → ToldFrom s h

  told_from : (s : Plain) (h : List Turn) → LegalFrom s h → Sound s → expired_at id (plain_from s h).requests ≡ true → ToldFrom s h
  told_from s [] legal sound e = at_first e
  told_from s (t ∷ ts) legal sound e = by_rest (told_from (after s t) ts legal.1 (sound_Step s t (after s t) legal.0.step sound) e)
    where
      by_step : Told s t → ToldFrom s (t ∷ ts)
      by_step (so_before x) = at_first x
      by_step (so_now d) = by_turn (record { front = []; turn = t; later = ts; parts = refl; decides = d })

      by_rest : ToldFrom (after s t) ts → ToldFrom s (t ∷ ts)
      by_rest (at_first x) = by_step (step_back s t (after s t) legal.0.step sound x)
      by_rest (by_turn d) = by_turn (record { front = t ∷ d.front; turn = d.turn; later = d.later; parts = ap (λ (l : List Turn). t ∷ l) d.parts; decides = d.decides })

assoc : (xs ys zs : List Turn) → (xs ++ ys) ++ zs ≡ xs ++ (ys ++ zs)
assoc [] ys zs = refl
assoc (x ∷ xs) ys zs = ap (λ (l : List Turn). x ∷ l) (assoc xs ys zs)

decided_so : (start : Plain) (h : List Turn) (turn : Turn) → IsStart start → LegalFrom start (h ++ turn ∷ []) → (id : ℕ) (r : Request) → request_at (found_by (plain_from start h) turn.at) id ≡ Some r → was_expired r.state ≡ true → Decided start id (h ++ turn ∷ [])
decided_so start h turn from legal id r there e = by_turn_itself (found_back id (plain_from start h) turn (sound_before start h (turn ∷ []) from legal) (ap expired_row there ∙ e))
  where
    by_history : ToldFrom id start h → Decided start id (h ++ turn ∷ [])
    by_history (at_first x) = absurd (contra (subst (λ (rs : List Request). expired_at id rs ≡ true) from.alone x))
      where
        contra : false ≡ true → ⊥
        contra e = cc
    by_history (by_turn d) = record {
      before = d.front;
      turn = d.turn;
      later = d.later ++ turn ∷ [];
      parts = ap (λ (l : List Turn). l ++ turn ∷ []) d.parts ∙ assoc d.front (d.turn ∷ d.later) (turn ∷ []);
      decides = d.decides;
    }

    by_turn_itself : Told id (plain_from start h) turn → Decided start id (h ++ turn ∷ [])
    by_turn_itself (so_before x) = by_history (told_from id start h (LegalFrom-front start h (turn ∷ []) legal) from.sound x)
    by_turn_itself (so_now d) = record { before = h; turn = turn; later = []; parts = refl; decides = d }

pub expired_is_decided : (start : Plain) (h : List Turn) (turn : Turn) → IsStart start → LegalFrom start (h ++ turn ∷ []) → turn.out ≡ out.Expired → ExpiredBecause start h turn
expired_is_decided start h turn from legal e =
    by_why (why_expired (found_by (plain_from start h) turn.at) turn.event
    (expired_case (found_by (plain_from start h) turn.at) turn.caller turn.event (chooser (found_by (plain_from start h) turn.at) turn.caller turn.event) turn.out turn.picks (after (plain_from start h) turn) refl (last_step start h turn [] legal) (ap is_expired_out e)))
  where
    by_why : Expires (found_by (plain_from start h) turn.at) turn.event → ExpiredBecause start h turn
    by_why (submits id is late_so) = late id is late_so
    by_why (answered id r asks there x) = decided id asks (decided_so start h turn from legal id r there x)
    by_why (has_ended id l asks is) = ended id l asks is
