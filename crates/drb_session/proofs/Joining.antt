-- Steps of a run, and what they come to.
use Rattle.std.proofs.Common.{◌≡◌, ℕ, ◌+◌, ◌<◌, ◌≤◌, List, [], ◌∷◌, ◌++◌, length, map, Bool, true, false, refl, sym, ◌∙◌, ap, subst, arith, length-append, true≢false, inl, inr}
use Rattle.std.specs.Prelude.{None, Some, Ok, Err, ◌&&◌}
use Rattle.std.specs.declared.option.Option.{Option}
use Rattle.std.specs.declared.result.Result.{Result}
use Rattle.drb_outside.specs.Told.{Told, Reads}
use Rattle.drb_outside.specs.Telling.{told_as}
use Rattle.drb_outside.specs.Records.{Record}
use Rattle.drb_tree.specs.declared.Remote.{Remote}
use Rattle.rinda_rules.specs.declared.turn.Turn.{Turn}
use Rattle.rinda_rules.specs.declared.event.Event.{Event}
use Rattle.rinda_rules.specs.declared.event.Event.TheVariants.{Collect, Pop, NextAsk, Tick, Shut}
use Rattle.rinda_rules.specs.declared.out.Out.{Out}
use Rattle.rinda_rules.specs.Space.{Plain}
use Rattle.rinda_rules.specs.Phases.{advanced, nothing_due}
use Rattle.rinda_rules.specs.Legal.{plain_from}
use Rattle.rinda_rules.specs.Nothing.{is_nothing, finds_nothing}
use Rattle.drb_script.specs.declared.patience.Patience.{Patience}
use Rattle.drb_script.specs.declared.patience.Patience.TheVariants.{Wait}
use Rattle.drb_dispatch.specs.declared.call.Call.{Call}
use Rattle.drb_dispatch.specs.declared.place.Place.{Place}
use Rattle.drb_back.specs.declared.back.Back.{Back}
use Rattle.drb_script.specs.declared.reply.Reply.{Reply}
use Rattle.drb_script.specs.declared.next.Saying.{Saying}
use Rattle.drb_script.specs.declared.next.Loose.{Loose}
use Rattle.drb_script.specs.declared.next.Loose.TheVariants as left
use Rattle.drb_script.specs.declared.next.AfterTurn.{AfterTurn}
use Rattle.drb_script.specs.declared.next.AfterCall.{AfterCall}
use Rattle.drb_script.specs.declared.next.Next.{Next}
use Rattle.drb_script.specs.declared.next.Next.TheVariants as step
use Rattle.drb_script.specs.Acting.{makes, wants, lost}
use Rattle.drb_script.specs.Rest.{loose_turn, weight, is_glance}
use Rattle.drb_script.specs.Stands.{Action, turned, called, Script, IsBefore, Stands, CalledTo, TurnedTo, clearing}
use Rattle.drb_script.proofs.Standing.{stands_reply, stands_turn, stands_lost}
use Rattle.rinda_space.specs.declared.turned.TurnError.{TurnError}
use Rattle.rinda_space.specs.declared.turned.TurnError.TheVariants as turn_error
use Rattle.drb_session.specs.declared.making.Glance.{Glance}
use Rattle.drb_session.specs.declared.making.Halt.{Halt}
use Rattle.drb_session.specs.declared.making.Halt.TheVariants.{Full, Memory}
use Rattle.drb_session.specs.declared.running.Stepped.{Stepped}
use Rattle.drb_session.specs.declared.running.Stepped.TheVariants.{Going, Ended}
use Rattle.drb_session.specs.Passes.{Pass, FindsNothing, Lawful, Sees, Makes, TriesNothing, Tries}
use Rattle.drb_session.specs.Clocks.{ReadsFor}
use Rattle.drb_session.specs.Peers.{Says, Caused}
use Rattle.drb_session.specs.Calls.{CallsAll}
use Rattle.drb_session.specs.Glances.{event_of, glance_of}
use Rattle.drb_session.specs.Runs.{Side, side, Did, Runs, MakesTurn, MakesNone, Made, halt_of, Cleared, Steps, TurnsTo, PollsTo, Polls, Grew, Nearer}
use Rattle.drb_session.proofs.Small.{nothing_more, sees_same, sees_on, reads_none, reads_on, reads_one, reads_spare, did_none, did_on, did_turns}

-- One look.

pub made_turn : (p p' : Pass) (r r' : Option (List ℕ)) (at : ℕ) (event : Event) (out : Out) → Reads r r' at → Makes p p' at event out → MakesTurn p p' r r' event out
made_turn p p' r r' at event out h k = record {
  turn = k.turn;
  made = k.made;
  answered = k.answered;
  sees = k.sees;
  reads = subst (λ (q : ℕ). ReadsFor r r' (q ∷ [])) (sym k.reading) (reads_one r r' at h);
}

pub made_more : (p p' : Pass) (at : ℕ) (event : Event) (out : Out) → Makes p p' at event out → length p.seen < length p'.seen
made_more p p' at event out k =
    let e : length p'.seen ≡ length k.before + 1 = ap length k.last ∙ length-append k.before (k.turn ∷ []) in omega (arith, e, k.later)

pub made_none : (p p' : Pass) (r r' : Option (List ℕ)) (at : ℕ) → Reads r r' at → Sees p p' [] → MakesNone p p' r r'
made_none p p' r r' at h k = record { sees = k; reads = reads_spare r r' at h }

pub made_none_waited : (p p' p'' : Pass) (r r' : Option (List ℕ)) (at : ℕ) → Reads r r' at → Sees p p' [] → Sees p' p'' [] → MakesNone p p'' r r'
made_none_waited p p' p'' r r' at h k l = made_none p p'' r r' at h (sees_on p p' p'' [] [] k l)

right_of : (a b : Bool) → (a && b) ≡ true → b ≡ true
right_of true b e = e
right_of false b e = absurd (true≢false (sym e))

glanced : (s : Plain) (caller : ℕ) (event : Event) → finds_nothing s caller event ≡ true → event ≡ event_of (glance_of event)
glanced s caller (Collect id) e = refl
glanced s caller (Pop id) e = refl
glanced s caller NextAsk e = refl
glanced s caller Tick e = refl
glanced s caller Shut e = refl
glanced s caller event e = absurd (true≢false (sym e))

-- an event that finds nothing to do can be made again
pub nothing_glanced : (s : Plain) (caller at : ℕ) (event : Event) → is_nothing s caller at event ≡ true → event ≡ event_of (glance_of event)
nothing_glanced s caller at event e = glanced s caller event (right_of (nothing_due (advanced s at)) (finds_nothing s caller event) e)

pub tries_glanced : (p p' : Pass) (at : ℕ) (event : Event) (turns : ℕ) (g : Glance) → g ≡ glance_of event → Lawful p' → TriesNothing p p' at event turns → event ≡ event_of g
tries_glanced p p' at event turns g e l h = nothing_glanced (plain_from l.origin p'.seen) p'.caller at event (h.nothing l.origin l.starts) ∙ ap (λ q. event_of q) (sym e)

abbrev some_glance : Option Event → Bool
some_glance None = true
some_glance (Some e) = is_glance e

none_some : (e : Event) → None ≡ Some e → ⊥
none_some e h = cc

-- what may still be done is no glance
pub clearing_acts : (loose : Loose) (event : Event) → clearing loose ≡ Some event → is_glance event ≡ false
clearing_acts left.Nothing event e = absurd (none_some event e)
clearing_acts (left.Reserved id) event e = ap (λ (o : Option Event). some_glance o) (sym e)
clearing_acts (left.Granted id) event e = ap (λ (o : Option Event). some_glance o) (sym e)

pub made_halt : (p p' : Pass) (r r' : Option (List ℕ)) (at : ℕ) (event : Event) (error : TurnError) (halt : Halt) → halt ≡ halt_of error → Reads r r' at → Tries p p' at event (Err error) → Made p p' r r' event (Err halt)
made_halt p p' r r' at event (turn_error.Full turns) halt is h k = subst (λ (q : Halt). Made p p' r r' event (Err q)) (sym is) (made_none p p' r r' at h k.0, (at, k.1))
made_halt p p' r r' at event turn_error.Memory halt is h k = subst (λ (q : Halt). Made p p' r r' event (Err q)) (sym is) (made_none p p' r r' at h k)

pub none_then : (p p' p'' : Pass) (r r' r'' : Option (List ℕ)) → MakesNone p p' r r' → MakesNone p' p'' r' r'' → MakesNone p p'' r r''
none_then p p' p'' r r' r'' h k = record { sees = sees_on p p' p'' [] [] h.sees k.sees; reads = reads_on r r' r'' [] [] h.reads k.reads }

pub made_then : (p p' p'' : Pass) (r r' r'' : Option (List ℕ)) (event : Event) (result : Result Out Halt) → MakesNone p p' r r' → Made p' p'' r' r'' event result → Made p p'' r r'' event result
made_then p p' p'' r r' r'' event (Ok out) h k = record {
  turn = k.turn;
  made = k.made;
  answered = k.answered;
  sees = sees_on p p' p'' [] (k.turn ∷ []) h.sees k.sees;
  reads = reads_on r r' r'' [] (k.turn.at ∷ []) h.reads k.reads;
}
made_then p p' p'' r r' r'' event (Err (Full turns)) h k = (none_then p p' p'' r r' r'' h k.0, k.1)
made_then p p' p'' r r' r'' event (Err Memory) h k = none_then p p' p'' r r' r'' h k

pub made_at_last : (p p' p'' : Pass) (r r' r'' : Option (List ℕ)) (event event' : Event) (result : Result Out Halt) → event ≡ event' → MakesNone p p' r r' → Made p' p'' r' r'' event result → Made p p'' r r'' event' result
made_at_last p p' p'' r r' r'' event event' result is h k = subst (λ (q : Event). Made p p'' r r'' q result) is (made_then p p' p'' r r' r'' event result h k)

pub seen_longer : (p p' : Pass) (made : List Turn) → Sees p p' made → length p.seen ≤ length p'.seen
seen_longer p p' made h = let e : length p'.seen ≡ length p.seen + length h.more = ap length h.grown ∙ length-append p.seen h.more in omega (arith, e)

-- What may still be done.

pub cleared_none : (p : Pass) (r : Option (List ℕ)) (loose : Loose) → Cleared p p r r loose
cleared_none p r loose = record { turns = []; clears = tt; sees = sees_same p; reads = reads_none r }

pub cleared_by : (p p' : Pass) (r r' : Option (List ℕ)) (loose : Loose) (event : Event) (result : Result Out Halt) → clearing loose ≡ Some event → Made p p' r r' event result → Cleared p p' r r' loose
cleared_by p p' r r' loose event (Ok out) is h = record { turns = h.turn ∷ []; clears = is ∙ ap (λ q. Some q) (sym h.made); sees = h.sees; reads = h.reads }
cleared_by p p' r r' loose event (Err (Full turns)) is h = record { turns = []; clears = tt; sees = h.0.sees; reads = h.0.reads }
cleared_by p p' r r' loose event (Err Memory) is h = record { turns = []; clears = tt; sees = h.sees; reads = h.reads }

-- Steps.

pub steps_reply : (o : Place) (p : Patience) (call : Call) (done : List Action) (s : Side) (r : Reply) → Stands p call done (step.Reply r) → Steps o p call done s s (Ended (Ok r))
steps_reply o p call done s r h = record {
  more = [];
  did = did_none o s;
  comes = subst (λ (q : List Action). Script p call q r) (nothing_more done) (stands_reply p call done r h);
}

pub steps_lost : (o : Place) (n : ℕ) (p : Patience) (call : Call) (done : List Action) (a b : Pass) (r r' : Option (List ℕ)) (c : Option (List Record)) (loose : Loose) → Cleared a b r r' loose → Stands p call done (step.Lost loose) → Steps o p call done (side a r c n) (side b r' c n) (Ended (Err Memory))
steps_lost o n p call done a b r r' c loose h k = record {
  more = map turned h.turns;
  did = did_turns o n a b r r' c h.turns h.sees h.reads;
  comes = record { first = done; more = map turned h.turns; course = lost loose []; loose = loose; split = refl; goes = stands_lost p call done loose k; leaving = refl; clears = h.clears };
}

pub steps_call : (o : Place) (m n : ℕ) (p : Patience) (call : Call) (done : List Action) (a : Pass) (r : Option (List ℕ)) (c c' : Option (List Record)) (to : Remote) (saying : Saying) (then : AfterCall) (back : Back) (next : Next) → Told c c' n (Says o to saying back) → Caused o m n to saying back → m ≤ n → CalledTo p then to back next → Stands p call done (step.Call to saying then) → Steps o p call done (side a r c m) (side a r c' n) (Going next)
steps_call o m n p call done a r c c' to saying then back next h cause le k s = record {
  more = called to saying back ∷ [];
  did = record {
    sees = sees_same a;
    reads = reads_none r;
    calls = told_as (Says o to saying back) (CallsAll o (called to saying back ∷ [])) c c' n (λ x y t. (y, t, refl)) h;
    causes = (cause, tt);
    later = le;
  };
  comes = k call done saying s;
}

pub steps_turn : (o : Place) (n : ℕ) (p : Patience) (call : Call) (done : List Action) (a b : Pass) (r r' : Option (List ℕ)) (c : Option (List Record)) (event : Event) (then : AfterTurn) (stepped : Stepped) → TurnsTo p a b r r' event then stepped → Stands p call done (step.Turn event then) → Steps o p call done (side a r c n) (side b r' c n) stepped
steps_turn o n p call done a b r r' c event then (Going next) h s = record {
  more = turned h.made.turn ∷ [];
  did = did_turns o n a b r r' c (h.made.turn ∷ []) h.made.sees h.made.reads;
  comes = h.turned_to call done h.made.turn h.made.answered (subst (λ (q : Event). Stands p call done (step.Turn q then)) (sym h.made.made) s);
}
steps_turn o n p call done a b r r' c event then (Ended (Ok reply)) h s = absurd h
steps_turn o n p call done a b r r' c event then (Ended (Err (Full turns))) h s = record {
  more = [];
  did = did_turns o n a b r r' c [] h.0.sees h.0.reads;
  comes = (loose_turn then, h.1.0, event, subst (λ (q : List Action). IsBefore p call q (loose_turn then) (makes event)) (nothing_more done) (stands_turn p call done event then s), h.1.1);
}
steps_turn o n p call done a b r r' c event then (Ended (Err Memory)) h s = record {
  more = [];
  did = did_turns o n a b r r' c [] h.sees h.reads;
  comes = record { first = done; more = []; course = wants (loose_turn then) (makes event); loose = loose_turn then; split = refl; goes = stands_turn p call done event then s; leaving = refl; clears = tt };
}

-- The whole run.

pub runs_end : (o : Place) (p : Patience) (call : Call) (a b c : Side) (done : List Action) (result : Result Reply Halt) → Did o a b done → Steps o p call done b c (Ended result) → Runs o p call a c result
runs_end o p call a b c done result h k = record { actions = done ++ k.more; did = did_on o a b c done k.more h k.did; comes = k.comes }

pub replies_grow : (p p' p'' : Pass) (was next : Next) → length p.seen ≤ length p'.seen → Nearer p' was p'' (Going next) → weight next ≡ 2 → Grew p p''
replies_grow p p' p'' was next le (inl h) e = (omega (arith, le, h.0), h.1)
replies_grow p p' p'' was next le (inr h) e = absurd (omega (arith, e, h.2))

-- Polls.

pub polls_made : (a b : Pass) (r r' : Option (List ℕ)) (event : Event) (then : AfterTurn) (out : Out) (next : Next) → MakesTurn a b r r' event out → TurnedTo Wait then out next → length a.seen < length b.seen → PollsTo a b r r' event then false (Going next)
polls_made a b r r' event then out next h k l = (record { out = out; made = h; turned_to = k }, l)

pub polls_none : (a b : Pass) (r r' : Option (List ℕ)) (event event' : Event) (then : AfterTurn) → event ≡ event' → MakesNone a b r r' → (at : ℕ) × FindsNothing b at event → PollsTo a b r r' event then true (Going (step.Turn event' then))
polls_none a b r r' event event' then is h l = (h, ap (λ (e : Event). step.Turn e then) (sym is), l)

pub polls_halt : (a b : Pass) (r r' : Option (List ℕ)) (event : Event) (then : AfterTurn) (halt : Halt) → Made a b r r' event (Err halt) → PollsTo a b r r' event then false (Ended (Err halt))
polls_halt a b r r' event then halt h = h

pub steps_poll : (o : Place) (n : ℕ) (call : Call) (done : List Action) (a b : Pass) (r r' : Option (List ℕ)) (c : Option (List Record)) (event : Event) (then : AfterTurn) (waits : Bool) (stepped : Stepped) → PollsTo a b r r' event then waits stepped → Stands Wait call done (step.Turn event then) → Steps o Wait call done (side a r c n) (side b r' c n) stepped
steps_poll o n call done a b r r' c event then false (Going next) h s = steps_turn o n Wait call done a b r r' c event then (Going next) h.0 s
steps_poll o n call done a b r r' c event then true (Going next) h s = record {
  more = [];
  did = did_turns o n a b r r' c [] h.0.sees h.0.reads;
  comes = subst (λ (q : List Action). Stands Wait call q next) (nothing_more done) (subst (λ (q : Next). Stands Wait call done q) (sym h.1) s);
}
steps_poll o n call done a b r r' c event then false (Ended (Ok reply)) h s = absurd h
steps_poll o n call done a b r r' c event then true (Ended (Ok reply)) h s = absurd h
steps_poll o n call done a b r r' c event then true (Ended (Err halt)) h s = absurd h
steps_poll o n call done a b r r' c event then false (Ended (Err (Full turns))) h s = steps_turn o n Wait call done a b r r' c event then (Ended (Err (Full turns))) h s
steps_poll o n call done a b r r' c event then false (Ended (Err Memory)) h s = steps_turn o n Wait call done a b r r' c event then (Ended (Err Memory)) h s

pub polls_turn : (a b : Pass) (r r' : Option (List ℕ)) (event : Event) (then : AfterTurn) (waits : Bool) (stepped : Stepped) → Lawful b → PollsTo a b r r' event then waits stepped → Polls a (step.Turn event then) b waits stepped
polls_turn a b r r' event then false (Going next) l h = inl (h.1, l.short)
polls_turn a b r r' event then true (Going next) l h = (h.1, h.2)
polls_turn a b r r' event then false (Ended (Ok reply)) l h = absurd h
polls_turn a b r r' event then true (Ended (Ok reply)) l h = absurd h
polls_turn a b r r' event then true (Ended (Err halt)) l h = absurd h
polls_turn a b r r' event then false (Ended (Err halt)) l h = tt
