-- How many events of a notifier were popped, and how it came to its state.
use Rattle.std.proofs.Common.{◌≡◌, ◌≢◌, ℕ, ◌+◌, ◌<◌, ◌≤◌, Bool, true, false, cond, ◌&&◌, List, [], ◌∷◌, map, length, Option, Some, None, refl, sym, ◌∙◌, ap, subst, arith}
use Rattle.std.specs.Prelude.{◌==◌, is_none}
use Rattle.std.proofs.lemmas.Bool.Decides.{nat_tests}
use Rattle.drb_tree.specs.declared.Tree.{Tree}
use Rattle.drb_tree.specs.declared.Remote.{Remote}
use Rattle.rinda_tuple.specs.declared.tuple.Tuple.{Tuple}
use Rattle.rinda_tuple.specs.declared.tuple.Template.{Template}
use Rattle.rinda_tuple.specs.declared.lease.Lease.{Lease}
use Rattle.rinda_tuple.specs.Lives.{deadline}
use Rattle.rinda_rules.specs.declared.object.ObjectKind.{ObjectKind}
use Rattle.rinda_rules.specs.declared.object.ObjectKind.TheVariants as object
use Rattle.rinda_rules.specs.declared.object.Last.{Last}
use Rattle.rinda_rules.specs.declared.object.Last.TheVariants as last
use Rattle.rinda_rules.specs.declared.object.Doubt.TheVariants as doubt
use Rattle.rinda_rules.specs.declared.event.Kind.{Kind}
use Rattle.rinda_rules.specs.declared.event.Kind.TheVariants as kind
use Rattle.rinda_rules.specs.declared.event.Event.{Event}
use Rattle.rinda_rules.specs.declared.event.Event.TheVariants.{Write, Reserve, Submit, Collect, Settle, Withdraw, Cancel, Renew, Look, Value, ReadAll, Notify, Pop, NextAsk, Asked, Tick, Shut}
use Rattle.rinda_rules.specs.declared.out.Out.{Out}
use Rattle.rinda_rules.specs.declared.out.Out.TheVariants as out
use Rattle.rinda_rules.specs.declared.row.RequestState.{RequestState}
use Rattle.rinda_rules.specs.declared.row.RequestState.TheVariants as state
use Rattle.rinda_rules.specs.declared.plain.Entry.{Entry}
use Rattle.rinda_rules.specs.declared.plain.Request.{Request}
use Rattle.rinda_rules.specs.declared.plain.Notifier.{Notifier}
use Rattle.rinda_rules.specs.declared.plain.Hearing.{Hearing}
use Rattle.rinda_rules.specs.declared.plain.Hearing.TheVariants as hearing
use Rattle.rinda_rules.specs.declared.plain.Raised.{Raised}
use Rattle.rinda_rules.specs.declared.turn.Pick.{Pick}
use Rattle.rinda_rules.specs.Rows.{row_of, changed, without}
use Rattle.rinda_rules.specs.Space.{Plain, Found, TheTuple, TheRequest, TheNotifier, HasEnded, IsRecycled, IsUnknown, found, request_at, tuple_at, notifier_at, is_over, is_running, is_due_notifier, renewer_of}
use Rattle.rinda_rules.specs.Queue.{queue}
use Rattle.rinda_rules.specs.Phases.{aged, request_in, request_ended, served, served_as, served_rows, Serve, with_tuple, with_request, with_notifier}
use Rattle.rinda_rules.specs.AtOnce.{expire_before, aged_notifier}
use Rattle.rinda_rules.specs.Cases.{Outcome, answers, minted, new_tuple, new_notifier, written, written_over, write_tuple, shut_notifier, shut_down, on_own, submit, collect_served, collect, settle, pop_empty, pop_queue, pop_ended, pop, withdraw_request, withdraw, cancel_tuple, cancel_request, cancel_notifier, cancel, renewed_tuple, renewed_request, renewed_notifier, renew_request, renew_notifier, renew_with, look, value, Asking, askings, least, asked_doubt, ask, is_asked, told, outcome}
use Rattle.rinda_rules.specs.Sound.{Sound, is_kept_answer, has_answer}
use Rattle.rinda_rules.proofs.Lists.{row_has_id, row_changed, all_at}
use Rattle.rinda_rules.proofs.Finding.{found-request, found-notifier}
use Rattle.rinda_rules.proofs.Keeping.{with_new_request}
use Rattle.rinda_rules.proofs.AtOnce.{aging_at_once}
use Rattle.rinda_laws.specs.Hears.{is_event_out, asks_next}
use Rattle.rinda_laws.proofs.Staying.{Told}
use Rattle.rinda_laws.proofs.Hearing.{unmap, unpush, unwithout, aged_id, shut_id, settle_notifiers, fresh}

-- one more where a turn popped

abbrev pub more : Bool → ℕ → ℕ
more b k = cond {A = ℕ} b 1 0 + k

pub none_more : (x k : ℕ) → x ≡ k → x ≡ 0 + k
none_more x k e = omega (arith, e)

one_more : (x k : ℕ) → x ≡ k → x + 1 ≡ 1 + k
one_more x k e = omega (arith, e)

off : (a : Bool) → (a && false) ≡ false
off true = refl
off false = refl

quiet_test : (b : Bool) (x k : ℕ) → b ≡ false → x ≡ k → x ≡ more b k
quiet_test true x k e is = cc
quiet_test false x k e is = none_more x k is

contra : (b : Bool) → b ≡ true → b ≡ false → ⊥
contra b x y = grind arith

same_id : (a b : ℕ) → a == b ≡ true → a ≡ b
same_id a b e = grind (arith, nat_tests)

other_id : (a b : ℕ) → a == b ≡ false → b ≢ a
other_id a b e = λ is. contra (a == b) (equal a b (sym is)) e
  where
    equal : (a b : ℕ) → a ≡ b → a == b ≡ true
    equal a b e = grind (arith, nat_tests)

-- an event is no answer of a request
not_event : (o : Out) → is_kept_answer o ≡ true → is_event_out o ≡ false
not_event (out.Entry i) e = cc
not_event out.Shut e = cc
not_event (out.Reserved i) e = cc
not_event (out.Answer v) e = refl
not_event (out.Parked i) e = cc
not_event (out.Granted i v) e = cc
not_event (out.All vs) e = cc
not_event (out.Notifier i) e = cc
not_event (out.Event v) e = cc
not_event out.Closed e = cc
not_event out.Expired e = refl
not_event out.Canceled e = refl
not_event out.WouldWait e = cc
not_event out.NotYet e = cc
not_event (out.State flags) e = cc
not_event (out.Ask i r) e = cc
not_event out.Plain e = cc
not_event out.Recycled e = cc
not_event out.Unknown e = cc
not_event out.WrongKind e = cc

ended_not_event : (k : ObjectKind) → is_event_out (pop_ended k) ≡ false
ended_not_event object.Entry = refl
ended_not_event object.Request = refl
ended_not_event object.Notifier = refl

-- Cases that leave the notifiers as they were.

served_same : (kd : Kind) (r : Request) (t : Entry) (s : Plain) → (served_as kd r t s).notifiers ≡ s.notifiers
served_same kind.Read r t s = refl
served_same kind.Take r t s = refl
served_same kind.Move r t s = refl

rows_same : (s : Plain) (r : Option Request) (t : Option Entry) → (served_rows s r t).notifiers ≡ s.notifiers
rows_same s None t = refl
rows_same s (Some r) None = refl
rows_same s (Some r) (Some t) = served_same r.kind r t s

serve_same : (s : Plain) (picks : List Pick) (s' : Plain) → Serve s picks s' → s'.notifiers ≡ s.notifiers
serve_same s [] s' serve = ap (λ (p : Plain). p.notifiers) serve.1
serve_same s (pick ∷ picks) s' serve = serve_same (served s pick) picks s' serve.1 ∙ rows_same s (request_at s pick.request) (tuple_at s pick.tuple)

on_own_same : (s : Plain) (caller : ℕ) (case : Request → Outcome) (f : Found) → ((r : Request) → (case r).after.notifiers ≡ s.notifiers) → (on_own s caller case f).after.notifiers ≡ s.notifiers
on_own_same s caller case (TheTuple t) each = refl
on_own_same s caller case (TheNotifier n) each = refl
on_own_same s caller case (HasEnded kd l) each = refl
on_own_same s caller case IsRecycled each = refl
on_own_same s caller case IsUnknown each = refl
on_own_same s caller case (TheRequest r) each = by_test (r.caller == caller)
  where
    by_test : (b : Bool) → (cond {A = Outcome} b (case r) (answers s out.WrongKind)).after.notifiers ≡ s.notifiers
    by_test true = each r
    by_test false = refl

submit_same : (s : Plain) (r : Request) (choice : Option Entry) (st : RequestState) → (submit s r choice st).after.notifiers ≡ s.notifiers
submit_same s r None state.Reserved = by_tests r.marked (is_over s.clock r.deadline && is_none r.renewer)
  where
    by_tests : (a b : Bool) → (cond {A = Outcome} a (answers (request_ended last.Canceled r.id s) out.Canceled) (cond {A = Outcome} b (answers (request_ended last.Expired r.id s) out.Expired) (answers (request_in r.id state.Parked s) (out.Parked r.id)))).after.notifiers ≡ s.notifiers
    by_tests true b = refl
    by_tests false true = refl
    by_tests false false = refl
submit_same s r (Some t) state.Reserved = by_kind r.kind
  where
    by_kind : (kd : Kind) → (collect_served (served_as kd r t s) r t kd).after.notifiers ≡ s.notifiers
    by_kind kind.Read = refl
    by_kind kind.Take = refl
    by_kind kind.Move = refl
submit_same s r choice state.Parked = refl
submit_same s r choice (state.Granted t) = refl
submit_same s r choice (state.Answered o) = refl

collect_same : (s : Plain) (r : Request) (st : RequestState) → (collect s r st).after.notifiers ≡ s.notifiers
collect_same s r state.Reserved = refl
collect_same s r state.Parked = refl
collect_same s r (state.Granted t) = refl
collect_same s r (state.Answered o) = refl

settle_same : (s : Plain) (r : Request) (ok : Bool) (st : RequestState) → (settle s r ok st).after.notifiers ≡ s.notifiers
settle_same s r ok state.Reserved = refl
settle_same s r ok state.Parked = refl
settle_same s r ok (state.Granted t) = (settle_notifiers ok (tuple_at s t) s).0
settle_same s r ok (state.Answered o) = refl

look_same : (s : Plain) (f : Found) → (look s f).after.notifiers ≡ s.notifiers
look_same s (TheRequest r) = refl
look_same s (TheTuple t) = refl
look_same s (TheNotifier n) = refl
look_same s (HasEnded kd l) = refl
look_same s IsRecycled = refl
look_same s IsUnknown = refl

value_same : (s : Plain) (f : Found) → (value s f).after.notifiers ≡ s.notifiers
value_same s (TheRequest r) = refl
value_same s (TheTuple t) = refl
value_same s (TheNotifier n) = refl
value_same s (HasEnded kd l) = refl
value_same s IsRecycled = refl
value_same s IsUnknown = refl

write_tuple_same : (s : Plain) (v : Tuple) (lease : Lease) → (write_tuple s (new_tuple s v lease)).notifiers ≡ s.notifiers
write_tuple_same s v lease = by_test (is_over s.clock (deadline lease.life s.clock))
  where
    by_test : (b : Bool) → (cond {A = Plain} b (written_over (new_tuple s v lease) (minted s)) (written (new_tuple s v lease) (minted s))).notifiers ≡ s.notifiers
    by_test true = refl
    by_test false = refl

unless_same : (b : Bool) (s : Plain) (o : Outcome) → o.after.notifiers ≡ s.notifiers → (cond {A = Outcome} b (answers s out.Shut) o).after.notifiers ≡ s.notifiers
unless_same true s o e = refl
unless_same false s o e = e

some_same : {x y : Notifier} → Some x ≡ Some y → x ≡ y
some_same e = grind arith

-- How a notifier may have come to its state since so many events were raised.

abbrev pub Became : ℕ → Hearing → Hearing → Type 0
Became at hearing.Running hearing.Running = Unit {0}
Became at hearing.Running (hearing.Closed l u) = at ≤ u
Became at (hearing.Closed l u) st = st ≡ hearing.Closed l u

not_both : true ≡ false → ⊥
not_both e = cc

closes : (at : ℕ) (was st : Hearing) (l : Last) (u : ℕ) → is_running st ≡ true → at ≤ u → Became at was st → Became at was (hearing.Closed l u)
closes at hearing.Running st l u runs le b = le
closes at (hearing.Closed l' u') st l u runs le b = absurd (not_both (sym runs ∙ ap is_running b))

pub begins_so : (at : ℕ) (st : Hearing) → Became at st st
begins_so at hearing.Running = tt
begins_so at (hearing.Closed l u) = refl

runs_of : (st : Hearing) → st ≡ hearing.Running → is_running st ≡ true
runs_of st e = ap is_running e

front : (a b : Bool) → (a && b) ≡ true → a ≡ true
front a b e = grind arith

more_at : (at n k : ℕ) → at ≤ n → at ≤ n + k
more_at at n k le = omega (arith, le)

module _ (id at : ℕ) (was : Hearing) where
  -- so many events of it were popped, and it came to its state so
  pub record Kept (k : ℕ) (n : Notifier) : Type 0 where
    pub popped_is : n.popped ≡ k
    pub became : Became at was n.state

  abbrev pub Popped : ℕ → List Notifier → Type 0
  Popped k ns = (n : Notifier) → row_of (λ n. n.id) id ns ≡ Some n → Kept k n

  -- a change of the lease or the doubt
  record Leases (f : Notifier → Notifier) : Type 0 where
    ids : (n : Notifier) → (f n).id ≡ n.id
    popped : (n : Notifier) → (f n).popped ≡ n.popped
    states : (n : Notifier) → (f n).state ≡ n.state

  kept_leases : (k : ℕ) (f : Notifier → Notifier) → Leases f → (n : Notifier) → Kept k n → Kept k (f n)
  kept_leases k f l n h = record { popped_is = l.popped n ∙ h.popped_is; became = subst (λ (st : Hearing). Became at was st) (sym (l.states n)) h.became }

  kept_closes : (k : ℕ) (n : Notifier) (l : Last) (u : ℕ) → is_running n.state ≡ true → at ≤ u → Kept k n → Kept k (record n { state = hearing.Closed l u })
  kept_closes k n l u runs le h = record { popped_is = h.popped_is; became = closes at was n.state l u runs le h.became }

  mapped : (k : ℕ) (f : Notifier → Notifier) (ns : List Notifier) → ((n : Notifier) → (f n).id ≡ n.id) → ((n : Notifier) → row_of (λ n. n.id) id ns ≡ Some n → Kept k n → Kept k (f n)) → Popped k ns → Popped k (map f ns)
  mapped k f ns ids keeps h n e =
      from_row (unmap id f ns n ids e)
    where
      from_row : (m : Notifier) × (row_of (λ n. n.id) id ns ≡ Some m) × (n ≡ f m) → Kept k n
      from_row (m, there, is) = subst (λ (m : Notifier). Kept k m) (sym is) (keeps m there (h m there))

  changed_ids : (of : ℕ) (f : Notifier → Notifier) → ((n : Notifier) → (f n).id ≡ n.id) → (n : Notifier) → (cond {A = Notifier} (n.id == of) (f n) n).id ≡ n.id
  changed_ids of f ids n = by_test (n.id == of)
    where
      by_test : (b : Bool) → (cond {A = Notifier} b (f n) n).id ≡ n.id
      by_test true = ids n
      by_test false = refl

  changed_at : (k of : ℕ) (f : Notifier → Notifier) (ns : List Notifier) → ((n : Notifier) → (f n).id ≡ n.id) → ((n : Notifier) → row_of (λ n. n.id) id ns ≡ Some n → n.id ≡ of → Kept k n → Kept k (f n)) → Popped k ns → Popped k (changed (λ n. n.id) of f ns)
  changed_at k of f ns ids keeps h = mapped k (λ n. cond {A = Notifier} (n.id == of) (f n) n) ns (changed_ids of f ids) (λ n there. by_test n there (n.id == of) refl) h
    where
      by_test : (n : Notifier) → row_of (λ n. n.id) id ns ≡ Some n → (b : Bool) → n.id == of ≡ b → Kept k n → Kept k (cond {A = Notifier} b (f n) n)
      by_test n there true is x = keeps n there (same_id n.id of is) x
      by_test n there false is x = x

  changed_leases : (k of : ℕ) (f : Notifier → Notifier) (ns : List Notifier) → Leases f → Popped k ns → Popped k (changed (λ n. n.id) of f ns)
  changed_leases k of f ns l h = changed_at k of f ns l.ids (λ n there same x. kept_leases k f l n x) h

  -- its own event is popped
  popped_more : (k of : ℕ) (ns : List Notifier) → of ≡ id → Popped k ns → Popped (1 + k) (changed (λ n. n.id) of (λ n. record n { popped = n.popped + 1 }) ns)
  popped_more k of ns same h n e =
      from_row (unmap id (λ n. cond {A = Notifier} (n.id == of) (record n { popped = n.popped + 1 }) n) ns n (changed_ids of (λ n. record n { popped = n.popped + 1 }) (λ n. refl)) e)
    where
      by_test : (m : Notifier) (b : Bool) → m.id == of ≡ b → m.id ≡ id → Kept k m → Kept (1 + k) (cond {A = Notifier} b (record m { popped = m.popped + 1 }) m)
      by_test m true is here x = record { popped_is = one_more m.popped k x.popped_is; became = x.became }
      by_test m false is here x = absurd (other_id m.id of is (same ∙ sym here))

      from_row : (m : Notifier) × (row_of (λ n. n.id) id ns ≡ Some m) × (n ≡ cond {A = Notifier} (m.id == of) (record m { popped = m.popped + 1 }) m) → Kept (1 + k) n
      from_row (m, there, is) = subst (λ (m : Notifier). Kept (1 + k) m) (sym is) (by_test m (m.id == of) refl (row_has_id (λ (n : Notifier). n.id) id ns m there) (h m there))

  -- an event of another one is
  popped_other : (k of : ℕ) (ns : List Notifier) → id ≢ of → Popped k ns → Popped k (changed (λ n. n.id) of (λ n. record n { popped = n.popped + 1 }) ns)
  popped_other k of ns ne h n e = h n (sym (row_changed (λ (n : Notifier). n.id) of (λ n. record n { popped = n.popped + 1 }) id ns ne (λ n. refl)) ∙ e)

  module _ (k : ℕ) where
    -- with one more where that is so
    abbrev Then : Bool → List Notifier → Type 0
    Then b ns = Popped (more b k) ns

    quiet : (b : Bool) (ns : List Notifier) → b ≡ false → Popped k ns → Then b ns
    quiet b ns isnt h n e = let x = h n e in record { popped_is = quiet_test b n.popped k isnt x.popped_is; became = x.became }

    -- the notifiers are as they were
    stay : (s s' : Plain) → s'.notifiers ≡ s.notifiers → Popped k s.notifiers → Then false s'.notifiers
    stay s s' same h = quiet false s'.notifiers refl (subst (λ (ns : List Notifier). Popped k ns) (sym same) h)

    one_popped : (i : ℕ) (n : Notifier) (ns : List Notifier) → n.id ≡ i → Popped k ns → Then (i == id && true) (changed (λ n. n.id) n.id (λ n. record n { popped = n.popped + 1 }) ns)
    one_popped i n ns same h = by_test (i == id) refl
      where
        by_test : (b : Bool) → i == id ≡ b → Then (b && true) (changed (λ n. n.id) n.id (λ n. record n { popped = n.popped + 1 }) ns)
        by_test true is = popped_more k n.id ns (same ∙ same_id i id is) h
        by_test false is = quiet false _ refl (popped_other k n.id ns (λ (e : id ≡ n.id). other_id i id is (e ∙ same)) h)

    queue_popped : (i : ℕ) (s : Plain) (n : Notifier) (nothing : Out) (es : List Raised) → n.id ≡ i → is_event_out nothing ≡ false → Popped k s.notifiers → Then (i == id && is_event_out (pop_queue s n nothing es).out) (pop_queue s n nothing es).after.notifiers
    queue_popped i s n nothing [] same isnt h = by_state n.state
      where
        by_state : (st : Hearing) → Then (i == id && is_event_out (pop_empty s n nothing st).out) (pop_empty s n nothing st).after.notifiers
        by_state hearing.Running = quiet _ s.notifiers (ap (λ (b : Bool). i == id && b) isnt ∙ off (i == id)) h
        by_state (hearing.Closed l u) = quiet _ (without (λ n. n.id) n.id s.notifiers) (off (i == id)) (λ m e. h m (unwithout id n.id s.notifiers m e))
    queue_popped i s n nothing (x ∷ xs) same isnt h = one_popped i n s.notifiers same h

    pop_popped : (i : ℕ) (s : Plain) (f : Found) → found s i ≡ f → Popped k s.notifiers → Then (i == id && is_event_out (pop s f).out) (pop s f).after.notifiers
    pop_popped i s (TheRequest r) e h = quiet _ s.notifiers (off (i == id)) h
    pop_popped i s (TheTuple t) e h = quiet _ s.notifiers (off (i == id)) h
    pop_popped i s (TheNotifier n) e h = queue_popped i s n out.NotYet (queue n s.events) (row_has_id (λ (n : Notifier). n.id) i s.notifiers n (found-notifier s i n e)) refl h
    pop_popped i s (HasEnded kd l) e h = quiet _ s.notifiers (ap (λ (b : Bool). i == id && b) (ended_not_event kd) ∙ off (i == id)) h
    pop_popped i s IsRecycled e h = quiet _ s.notifiers (off (i == id)) h
    pop_popped i s IsUnknown e h = quiet _ s.notifiers (off (i == id)) h

    withdraw_popped : (i : ℕ) (s : Plain) (caller : ℕ) (f : Found) → found s i ≡ f → Told s → Popped k s.notifiers → Then (i == id && is_event_out (withdraw s caller f).out) (withdraw s caller f).after.notifiers
    withdraw_popped i s caller (TheRequest r) e tell h = by_test (r.caller == caller)
      where
        by_state : (st : RequestState) → has_answer st ≡ true → Then (i == id && is_event_out (withdraw_request s r st).out) (withdraw_request s r st).after.notifiers
        by_state state.Reserved x = quiet _ s.notifiers (off (i == id)) h
        by_state state.Parked x = quiet _ s.notifiers (off (i == id)) h
        by_state (state.Granted t) x = quiet _ s.notifiers (off (i == id)) h
        by_state (state.Answered o) x = quiet _ s.notifiers (ap (λ (b : Bool). i == id && b) (not_event o x) ∙ off (i == id)) h

        by_test : (b : Bool) → Then (i == id && is_event_out (cond {A = Outcome} b (withdraw_request s r r.state) (answers s out.WrongKind)).out) (cond {A = Outcome} b (withdraw_request s r r.state) (answers s out.WrongKind)).after.notifiers
        by_test true = by_state r.state (all_at (λ (r : Request). has_answer r.state) (λ (r : Request). r.id) i s.requests r (found-request s i r e) tell)
        by_test false = quiet _ s.notifiers (off (i == id)) h
    withdraw_popped i s caller (TheTuple t) e tell h = quiet _ s.notifiers (off (i == id)) h
    withdraw_popped i s caller (TheNotifier n) e tell h = queue_popped i s n out.WouldWait (queue n s.events) (row_has_id (λ (n : Notifier). n.id) i s.notifiers n (found-notifier s i n e)) refl h
    withdraw_popped i s caller (HasEnded kd l) e tell h = quiet _ s.notifiers (ap (λ (b : Bool). i == id && b) (ended_not_event kd) ∙ off (i == id)) h
    withdraw_popped i s caller IsRecycled e tell h = quiet _ s.notifiers (off (i == id)) h
    withdraw_popped i s caller IsUnknown e tell h = quiet _ s.notifiers (off (i == id)) h

    cancel_popped : (i : ℕ) (s : Plain) (f : Found) → found s i ≡ f → at ≤ length s.events → Popped k s.notifiers → Popped k (cancel s f).after.notifiers
    cancel_popped i s (TheRequest r) e long h = by_state r.state
      where
        by_state : (st : RequestState) → Popped k (cancel_request s r st).notifiers
        by_state state.Reserved = h
        by_state state.Parked = h
        by_state (state.Granted t) = h
        by_state (state.Answered o) = h
    cancel_popped i s (TheTuple t) e long h = by_holder t.holder
      where
        by_holder : (o : Option ℕ) → Popped k (cancel_tuple s t o).notifiers
        by_holder None = h
        by_holder (Some x) = h
    cancel_popped i s (TheNotifier n) e long h = by_state n.state refl
      where
        -- the row that is changed is the one that was found
        found_one : (m : Notifier) → notifier_at s id ≡ Some m → m.id ≡ n.id → n ≡ m
        found_one m there same =
            let i_is : i ≡ id = sym (row_has_id (λ (n : Notifier). n.id) i s.notifiers n (found-notifier s i n e)) ∙ (sym same ∙ row_has_id (λ (n : Notifier). n.id) id s.notifiers m there) in
            some_same (sym (found-notifier s i n e) ∙ (ap (notifier_at s) i_is ∙ there))

        by_state : (st : Hearing) → n.state ≡ st → Popped k (cancel_notifier s n st).notifiers
        by_state hearing.Running is = changed_at k n.id (λ n. record n { state = hearing.Closed last.Canceled (length s.events) }) s.notifiers (λ n. refl)
            (λ m there same x. kept_closes k m last.Canceled (length s.events) (runs_of m.state (sym (ap (λ (n : Notifier). n.state) (found_one m there same)) ∙ is)) long x) h
        by_state (hearing.Closed l u) is = h
    cancel_popped i s (HasEnded kd l) e long h = h
    cancel_popped i s IsRecycled e long h = h
    cancel_popped i s IsUnknown e long h = h

    renewed : (d : Option ℕ) (renewer : Option Remote) → Leases (renewed_notifier d renewer)
    renewed d renewer = record { ids = λ n. refl; popped = λ n. refl; states = λ n. refl }

    renew_popped : (s : Plain) (d : Option ℕ) (renewer : Option Remote) (f : Found) → Popped k s.notifiers → Popped k (renew_with s d renewer f).after.notifiers
    renew_popped s d renewer (TheRequest r) h = by_state r.state
      where
        by_state : (st : RequestState) → Popped k (renew_request s d renewer r st).notifiers
        by_state state.Reserved = h
        by_state state.Parked = h
        by_state (state.Granted t) = h
        by_state (state.Answered o) = h
    renew_popped s d renewer (TheTuple t) h = h
    renew_popped s d renewer (TheNotifier n) h = by_state n.state
      where
        by_state : (st : Hearing) → Popped k (renew_notifier s d renewer n st).notifiers
        by_state hearing.Running = changed_leases k n.id (renewed_notifier d renewer) s.notifiers (renewed d renewer) h
        by_state (hearing.Closed l u) = h
    renew_popped s d renewer (HasEnded kd l) h = h
    renew_popped s d renewer IsRecycled h = h
    renew_popped s d renewer IsUnknown h = h

    told_popped : (s : Plain) (d : Option ℕ) (f : Found) → Popped k s.notifiers → Popped k (told s d f).after.notifiers
    told_popped s d (TheRequest r) h = by_test (is_asked r.doubt)
      where
        by_test : (b : Bool) → Popped k (cond {A = Plain} b (with_request r.id (renewed_request d (renewer_of d r.renewer s.clock)) s) s).notifiers
        by_test true = h
        by_test false = h
    told_popped s d (TheTuple t) h = by_test (is_asked t.doubt)
      where
        by_test : (b : Bool) → Popped k (cond {A = Plain} b (with_tuple t.id (renewed_tuple d (renewer_of d t.renewer s.clock)) s) s).notifiers
        by_test true = h
        by_test false = h
    told_popped s d (TheNotifier n) h = by_test (is_asked n.doubt)
      where
        by_test : (b : Bool) → Popped k (cond {A = Plain} b (with_notifier n.id (renewed_notifier d (renewer_of d n.renewer s.clock)) s) s).notifiers
        by_test true = changed_leases k n.id (renewed_notifier d (renewer_of d n.renewer s.clock)) s.notifiers (renewed d (renewer_of d n.renewer s.clock)) h
        by_test false = h
    told_popped s d (HasEnded kd l) h = h
    told_popped s d IsRecycled h = h
    told_popped s d IsUnknown h = h

    ask_popped : (s : Plain) (a : Option Asking) → Popped k s.notifiers → Popped k (ask s a).after.notifiers
    ask_popped s None h = h
    ask_popped s (Some a) h = changed_leases k a.id (λ n. record n { doubt = asked_doubt n.doubt }) s.notifiers (record { ids = λ n. refl; popped = λ n. refl; states = λ n. refl }) h

    notify_popped : (b : Bool) (s : Plain) (x : Tree) (pattern : Template) (lease : Lease) → id < s.next → Popped k s.notifiers → Popped k (cond {A = Outcome} b (answers s out.Shut) (fresh s x pattern lease)).after.notifiers
    notify_popped true s x pattern lease minted h = h
    notify_popped false s x pattern lease minted h = λ n e. h n (unpush id (new_notifier s x pattern lease) s.notifiers n (above s.next minted) e)
      where
        above : (n : ℕ) → id < n → n ≢ id
        above n h e = omega (arith, h, e)

    shut_popped : (b : Bool) (s : Plain) → at ≤ length s.events → Popped k s.notifiers → Popped k (cond {A = Outcome} b (answers s out.NotYet) (answers (shut_down s) out.Plain)).after.notifiers
    shut_popped true s long h = h
    shut_popped false s long h = mapped k (shut_notifier (length s.events)) s.notifiers (shut_id (length s.events)) (λ n there x. by_test n (is_running n.state) refl x) h
      where
        by_test : (n : Notifier) (b : Bool) → is_running n.state ≡ b → Kept k n → Kept k (cond {A = Notifier} b (record n { state = hearing.Closed last.Canceled (length s.events) }) n)
        by_test n true runs x = kept_closes k n last.Canceled (length s.events) runs long x
        by_test n false runs x = x

    pub outcome_popped : (s : Plain) (caller : ℕ) (event : Event) (choice : Option Entry) → Told s → id < s.next → at ≤ length s.events → Popped k s.notifiers → Then (asks_next id event && is_event_out (outcome s caller event choice).out) (outcome s caller event choice).after.notifiers
    outcome_popped s caller (Write v lease) choice tell minted long h = stay s (outcome s caller (Write v lease) choice).after (unless_same s.shut s (answers (write_tuple s (new_tuple s v lease)) (out.Entry s.next)) (write_tuple_same s v lease)) h
    outcome_popped s caller (Reserve kd pattern lease) choice tell minted long h = stay s (outcome s caller (Reserve kd pattern lease) choice).after (unless_same s.shut s (answers (with_new_request s caller kd pattern lease) (out.Reserved s.next)) refl) h
    outcome_popped s caller (Submit i) choice tell minted long h = stay s (outcome s caller (Submit i) choice).after (on_own_same s caller (λ r. submit s r choice r.state) (found s i) (λ r. submit_same s r choice r.state)) h
    outcome_popped s caller (Collect i) choice tell minted long h = stay s (outcome s caller (Collect i) choice).after (on_own_same s caller (λ r. collect s r r.state) (found s i) (λ r. collect_same s r r.state)) h
    outcome_popped s caller (Settle i ok) choice tell minted long h = stay s (outcome s caller (Settle i ok) choice).after (on_own_same s caller (λ r. settle s r ok r.state) (found s i) (λ r. settle_same s r ok r.state)) h
    outcome_popped s caller (Withdraw i) choice tell minted long h = withdraw_popped i s caller (found s i) refl tell h
    outcome_popped s caller (Cancel i) choice tell minted long h = quiet false _ refl (cancel_popped i s (found s i) refl long h)
    outcome_popped s caller (Renew i lease) choice tell minted long h = quiet false _ refl (renew_popped s (deadline lease.life s.clock) (renewer_of (deadline lease.life s.clock) lease.renewer s.clock) (found s i) h)
    outcome_popped s caller (Look i) choice tell minted long h = stay s (outcome s caller (Look i) choice).after (look_same s (found s i)) h
    outcome_popped s caller (Value i) choice tell minted long h = stay s (outcome s caller (Value i) choice).after (value_same s (found s i)) h
    outcome_popped s caller (ReadAll pattern) choice tell minted long h = quiet false s.notifiers refl h
    outcome_popped s caller (Notify x pattern lease) choice tell minted long h = quiet false _ refl (notify_popped s.shut s x pattern lease minted h)
    outcome_popped s caller (Pop i) choice tell minted long h = pop_popped i s (found s i) refl h
    outcome_popped s caller NextAsk choice tell minted long h = quiet false _ refl (ask_popped s (least (askings s)) h)
    outcome_popped s caller (Asked i life) choice tell minted long h = quiet false _ refl (told_popped s (deadline life s.clock) (found s i) h)
    outcome_popped s caller Tick choice tell minted long h = quiet false s.notifiers refl h
    outcome_popped s caller Shut choice tell minted long h = quiet false _ refl (shut_popped s.shut s long h)

  aged_one : (k : ℕ) (s : Plain) (n : Notifier) → at ≤ length s.events → Kept k n → Kept k (aged_notifier s n)
  aged_one k s n long h = by_tests (is_due_notifier s.clock n) (is_none n.renewer) refl
    where
      by_tests : (due alone : Bool) → is_due_notifier s.clock n ≡ due → Kept k (cond {A = Notifier} due (cond {A = Notifier} alone (record n { state = hearing.Closed last.Expired (length s.events + expire_before s.clock n.id s.tuples) }) (record n { doubt = doubt.Waiting })) n)
      by_tests true true due = kept_closes k n last.Expired (length s.events + expire_before s.clock n.id s.tuples) (front _ _ due) (more_at at (length s.events) (expire_before s.clock n.id s.tuples) long) h
      by_tests true false due = record { popped_is = h.popped_is; became = h.became }
      by_tests false alone due = h

  pub aged_popped : (k : ℕ) (s : Plain) → Sound s → at ≤ length s.events → Popped k s.notifiers → Popped k (aged s).notifiers
  aged_popped k s sound long h = subst (λ (p : Plain). Popped k p.notifiers) (sym (aging_at_once s sound)) (mapped k (aged_notifier s) s.notifiers (aged_id s) (λ n there x. aged_one k s n long x) h)

  -- what the event left is aged and served
  pub rest_popped : (k : ℕ) (s : Plain) (picks : List Pick) (s' : Plain) → Serve (aged s) picks s' → Sound s → at ≤ length s.events → Popped k s.notifiers → Popped k s'.notifiers
  rest_popped k s picks s' serve sound long h = subst (λ (ns : List Notifier). Popped k ns) (sym (serve_same (aged s) picks s' serve)) (aged_popped k s sound long h)
