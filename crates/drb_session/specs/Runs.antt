-- What the run of a script does: docs/SESSIONS.md, Runs.
use Rattle.std.specs.Prelude.{◌≡◌, ℕ, ◌<◌, ◌≤◌, ◌^◌, ◌⊎◌, length, List, [], ◌∷◌, ◌++◌, map, Bool, true, false, Ok, Err}
use Rattle.std.specs.declared.option.Option.{Option}
use Rattle.std.specs.declared.result.Result.{Result}
use Rattle.drb_outside.specs.Told.{Told}
use Rattle.drb_outside.specs.Records.{Record}
use Rattle.rinda_rules.specs.declared.turn.Turn.{Turn}
use Rattle.rinda_rules.specs.declared.event.Event.{Event}
use Rattle.rinda_rules.specs.declared.out.Out.{Out}
use Rattle.drb_dispatch.specs.declared.call.Call.{Call}
use Rattle.drb_dispatch.specs.declared.place.Place.{Place}
use Rattle.drb_script.specs.declared.patience.Patience.{Patience}
use Rattle.drb_script.specs.declared.patience.Patience.TheVariants.{Wait}
use Rattle.drb_script.specs.declared.reply.Reply.{Reply}
use Rattle.drb_script.specs.declared.next.Loose.{Loose}
use Rattle.drb_script.specs.declared.next.AfterTurn.{AfterTurn}
use Rattle.drb_script.specs.declared.next.Next.{Next}
use Rattle.drb_script.specs.declared.next.Next.TheVariants as step
use Rattle.drb_script.specs.Rest.{weight}
use Rattle.drb_script.specs.Acting.{makes}
use Rattle.drb_script.specs.Stands.{Action, turned, Script, IsBefore, Stops, Clears, Stands, TurnedTo}
use Rattle.rinda_space.specs.declared.turned.TurnError.{TurnError}
use Rattle.rinda_space.specs.declared.turned.TurnError.TheVariants as turn_error
use Rattle.drb_session.specs.declared.making.Halt.{Halt}
use Rattle.drb_session.specs.declared.making.Halt.TheVariants.{Full, Memory}
use Rattle.drb_session.specs.declared.making.Looked.{Looked}
use Rattle.drb_session.specs.declared.making.Looked.TheVariants.{Done, Again, Halted}
use Rattle.drb_session.specs.Glances.{event_of}
use Rattle.drb_session.specs.declared.running.Stepped.{Stepped}
use Rattle.drb_session.specs.declared.running.Stepped.TheVariants.{Going, Ended}
use Rattle.drb_session.specs.Passes.{Pass, Sees, IsFull, FindsNothing}
use Rattle.drb_session.specs.Clocks.{ReadsFor}
use Rattle.drb_session.specs.Calls.{turns_of, ats_of, CallsAll, CausedAll}

-- What a script acts on: what its caller knows of the space; the readings of the clock and the records of the dialer,
-- where they are told; and the dialer's count of faults.
pub record Side : Type 0 where
  pub pass : Pass
  pub readings : Option (List ℕ)
  pub calls : Option (List Record)
  pub faults : ℕ

abbrev pub side : Pass → Option (List ℕ) → Option (List Record) → ℕ → Side
side p r c n = record { pass = p; readings = r; calls = c; faults = n }

-- Exactly these actions were done: their turns, at readings of the clock, and their outgoing calls, each with its
-- cause.
pub record Did (place : Place) (old new : Side) (actions : List Action) : Type 0 where
  pub sees : Sees old.pass new.pass (turns_of actions)
  pub reads : ReadsFor old.readings new.readings (ats_of (turns_of actions))
  pub calls : Told old.calls new.calls new.faults (CallsAll place actions)
  pub causes : CausedAll place old.faults new.faults actions
  pub later : old.faults ≤ new.faults

-- What actions the result of a run allows. Ok: the whole script with this reply. Full: the first actions of it, where
-- the next one is a turn whose event found something to do, and the history was full. Memory: the first actions of
-- it, perhaps all, and then at most the one turn for what was left behind.
abbrev pub RunsTo : Patience → Call → Pass → List Action → Result Reply Halt → Type 0
RunsTo p call new actions (Ok reply) = Script p call actions reply
RunsTo p call new actions (Err (Full turns)) = (loose : Loose) × (at : ℕ) × (event : Event)
    × IsBefore p call actions loose (makes event) × IsFull new at event turns
RunsTo p call new actions (Err Memory) = Stops p call actions

-- the run of a call's script
pub record Runs (place : Place) (p : Patience) (call : Call) (old new : Side)
    (result : Result Reply Halt) : Type 0 where
  pub actions : List Action
  pub did : Did place old new actions
  pub comes : RunsTo p call new.pass actions result

-- the failure of a turn as one of a run
abbrev pub halt_of : TurnError → Halt
halt_of (turn_error.Full turns) = Full turns
halt_of turn_error.Memory = Memory

-- One turn, tried until there is something to do.

-- the turn of this event was made and so answered, at a reading of the clock
pub record MakesTurn (old new : Pass) (r r' : Option (List ℕ)) (event : Event) (out : Out) : Type 0
  where
    pub turn : Turn
    pub made : turn.event ≡ event
    pub answered : turn.out ≡ out
    pub sees : Sees old new (turn ∷ [])
    pub reads : ReadsFor r r' (turn.at ∷ [])

-- no turn was made
pub record MakesNone (old new : Pass) (r r' : Option (List ℕ)) : Type 0 where
  pub sees : Sees old new []
  pub reads : ReadsFor r r' []

abbrev pub Made : Pass → Pass → Option (List ℕ) → Option (List ℕ) → Event → Result Out Halt → Type 0
Made old new r r' event (Ok out) = MakesTurn old new r r' event out
Made old new r r' event (Err (Full turns)) =
    MakesNone old new r r' × ((at : ℕ) × IsFull new at event turns)
Made old new r r' event (Err Memory) = MakesNone old new r r'

-- at most the one turn that want of memory allows
pub record Cleared (old new : Pass) (r r' : Option (List ℕ)) (loose : Loose) : Type 0 where
  pub turns : List Turn
  pub clears : Clears loose (map turned turns)
  pub sees : Sees old new turns
  pub reads : ReadsFor r r' (ats_of turns)

-- One step of the machine. The actions so far are those of the call's script, and these are more.

abbrev pub StepsTo : Patience → Call → Pass → List Action → Stepped → Type 0
StepsTo p call new actions (Going next) = Stands p call actions next
StepsTo p call new actions (Ended result) = RunsTo p call new actions result

pub record Steps (place : Place) (p : Patience) (call : Call) (done : List Action) (old new : Side)
    (stepped : Stepped) : Type 0 where
  pub more : List Action
  pub did : Did place old new more
  pub comes : StepsTo p call new.pass (done ++ more) stepped

-- the same from wherever the machine stands in a script
abbrev pub StepsOn : Place → Patience → Next → Side → Side → Stepped → Type 0
StepsOn place p next old new stepped = (call : Call) (done : List Action) →
    Stands p call done next → Steps place p call done old new stepped

-- what a look came to, after which there may be another of the same event
abbrev pub LooksTo : Pass → Pass → Option (List ℕ) → Option (List ℕ) → Event → Looked → Type 0
LooksTo old new r r' event (Done out) = MakesTurn old new r r' event out
LooksTo old new r r' event (Again glance) = MakesNone old new r r' × (event ≡ event_of glance)
LooksTo old new r r' event (Halted halt) = Made old new r r' event (Err halt)

-- After a turn more is seen, and after a wait more turns are known.
abbrev pub GrowsAt : Pass → Pass → Looked → Type 0
GrowsAt old new (Done out) = length old.seen < length new.seen
GrowsAt old new (Again glance) = (old.known < new.known) × (old.known < 2 ^ 64)
GrowsAt old new (Halted halt) = Unit {0}

-- One turn of the machine.

pub record TurnsOn (p : Patience) (old new : Pass) (r r' : Option (List ℕ)) (event : Event)
    (then : AfterTurn) (next : Next) : Type 0 where
  pub out : Out
  pub made : MakesTurn old new r r' event out
  pub turned_to : TurnedTo p then out next

abbrev pub TurnsTo : Patience → Pass → Pass → Option (List ℕ) → Option (List ℕ) → Event → AfterTurn
    → Stepped → Type 0
TurnsTo p old new r r' event then (Going next) = TurnsOn p old new r r' event then next
TurnsTo p old new r r' event then (Ended (Ok reply)) = ⊥
TurnsTo p old new r r' event then (Ended (Err halt)) = Made old new r r' event (Err halt)

abbrev pub IfGoing : Stepped → (Next → Type 0) → Type 0
IfGoing (Going next) P = P next
IfGoing (Ended result) P = Unit {0}

-- more was seen, and no more than the greatest u64
abbrev pub Grew : Pass → Pass → Type 0
Grew old new = (length old.seen < length new.seen) × (length new.seen < 2 ^ 64)

-- A step of the machine makes a turn, or is a call after which a turn comes; and the reply stands alone.
abbrev pub Nearer : Pass → Next → Pass → Stepped → Type 0
Nearer old was new (Going next) = Grew old new
    ⊎ ((new ≡ old) × (weight was ≡ 1) × (weight next ≡ 0))
Nearer old was new (Ended (Ok reply)) = (new ≡ old) × (weight was ≡ 2)
Nearer old was new (Ended (Err halt)) = Unit {0}

-- A try that waits for nobody made a turn, or found nothing to do, or failed.
abbrev pub Glimpses : Pass → Pass → Event → Looked → Type 0
Glimpses old new event (Done out) = length old.seen < length new.seen
Glimpses old new event (Again glance) = (at : ℕ) × FindsNothing new at event
Glimpses old new event (Halted halt) = Unit {0}

-- One turn of the machine that waits for nobody. It waits where there was nothing to do, and the same turn is to be
-- made; else the turn was made, or the machine has come to an end.
abbrev pub PollsTo : Pass → Pass → Option (List ℕ) → Option (List ℕ) → Event → AfterTurn → Bool
    → Stepped → Type 0
PollsTo old new r r' event then false (Going next) =
    TurnsOn Wait old new r r' event then next × (length old.seen < length new.seen)
PollsTo old new r r' event then true (Going next) = MakesNone old new r r'
    × (next ≡ step.Turn event then) × ((at : ℕ) × FindsNothing new at event)
PollsTo old new r r' event then false (Ended (Err halt)) = Made old new r r' event (Err halt)
PollsTo old new r r' event then waits (Ended result) = ⊥

-- the next turn's event finds nothing to do after the turns that were seen
abbrev pub Idles : Next → Pass → Type 0
Idles (step.Turn event then) new = (at : ℕ) × FindsNothing new at event
Idles (step.Call to saying then) new = ⊥
Idles (step.Reply r) new = ⊥
Idles (step.Lost loose) new = ⊥

-- A step that waits for nobody hands back the same where it is to wait, which it is only where the turn finds nothing
-- to do; else it comes nearer to the end.
abbrev pub Polls : Pass → Next → Pass → Bool → Stepped → Type 0
Polls old was new true (Going next) = (next ≡ was) × Idles was new
Polls old was new true (Ended result) = ⊥
Polls old was new false stepped = Nearer old was new stepped
