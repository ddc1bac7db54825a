-- What a caller knows of the one history of a space: docs/SESSIONS.md, Turns.
use Rattle.std.specs.Prelude.{◌≡◌, ℕ, ◌^◌, ◌<◌, ◌≤◌, List, [], ◌∷◌, ◌++◌, length, true, false, None, Some, Ok, Err}
use Rattle.std.specs.declared.option.Option.{Option}
use Rattle.std.specs.declared.result.Result.{Result}
use Rattle.atomic_table.specs.Seated.{TableId}
use Rattle.drb_monitor.specs.Turns.{turns_of}
use Rattle.rinda_rules.specs.declared.turn.Turn.{Turn}
use Rattle.rinda_rules.specs.declared.event.Event.{Event}
use Rattle.rinda_rules.specs.declared.out.Out.{Out}
use Rattle.rinda_rules.specs.declared.start.Start.{Start}
use Rattle.rinda_rules.specs.Space.{Plain}
use Rattle.rinda_rules.specs.Legal.{LegalFrom, plain_from}
use Rattle.rinda_rules.specs.Nothing.{is_nothing}
use Rattle.rinda_space.specs.Spaces.{Spaced, StartsAt}
use Rattle.rinda_space.specs.declared.turned.Turned.{Turned}
use Rattle.rinda_space.specs.declared.turned.Turned.TheVariants.{Done, Nothing}
use Rattle.rinda_space.specs.declared.turned.TurnError.{TurnError}
use Rattle.rinda_space.specs.declared.turned.TurnError.TheVariants.{Full, Memory}

-- A caller: its number; the stored rows that the histories start from, if they don't start from the empty space; the
-- turns that it has seen; its own ones; how many turns there are at least; how many there may be; and the monitor by
-- which others make turns too. Without a monitor it is alone.
pub record Pass : Type 0 where
  pub caller : ℕ
  pub start : Option Start
  pub seen : List Turn
  pub mine : List Turn
  pub known : ℕ
  pub cap : ℕ
  pub beside : Option TableId

-- the turns of this caller
abbrev pub turns_by : ℕ → List Turn → List Turn
turns_by caller turns = turns_of (λ t. t.caller) caller turns

-- who is the only caller of a space: it has seen all turns, and its own ones among them are its own
abbrev pub alone : ℕ → Spaced → Pass
alone caller space = record {
  caller = caller;
  start = space.start;
  seen = space.turns;
  mine = turns_by caller space.turns;
  known = 0;
  cap = space.cap;
  beside = None;
}

-- the event finds nothing to do after the turns that were seen, from wherever they start
abbrev pub FindsNothing : Pass → ℕ → Event → Type 0
FindsNothing p at event = (s : Plain) → StartsAt p.start s →
    is_nothing (plain_from s p.seen) p.caller at event ≡ true

-- it finds something to do there
abbrev pub FindsSomething : Pass → ℕ → Event → Type 0
FindsSomething p at event = (s : Plain) → StartsAt p.start s →
    is_nothing (plain_from s p.seen) p.caller at event ≡ false

-- Some space is the start. The turns that were seen are legal from each start, those of the caller's number are its
-- own ones, and there are no more than there may be.
pub record Lawful (p : Pass) : Type 0 where
  pub origin : Plain
  pub starts : StartsAt p.start origin
  pub legal : (s : Plain) → StartsAt p.start s → LegalFrom s p.seen
  pub own : turns_by p.caller p.seen ≡ p.mine
  pub few : length p.seen ≤ p.cap
  pub short : length p.seen < 2 ^ 64

-- These turns of its own were made, and what was seen before is where it was. One who is alone sees no other turns.
pub record Sees (old new : Pass) (made : List Turn) : Type 0 where
  pub caller : new.caller ≡ old.caller
  pub start : new.start ≡ old.start
  pub cap : new.cap ≡ old.cap
  pub beside : new.beside ≡ old.beside
  pub mine : new.mine ≡ old.mine ++ made
  pub more : List Turn
  pub grown : new.seen ≡ old.seen ++ more
  pub known : old.known ≤ new.known
  pub alone : old.beside ≡ None → new.seen ≡ old.seen ++ made

-- The turn of this event at this reading was made and so answered, and stands last in what is seen.
pub record Makes (old new : Pass) (at : ℕ) (event : Event) (out : Out) : Type 0 where
  pub turn : Turn
  pub by : turn.caller ≡ old.caller
  pub reading : turn.at ≡ at
  pub made : turn.event ≡ event
  pub answered : turn.out ≡ out
  pub sees : Sees old new (turn ∷ [])
  pub before : List Turn
  pub last : new.seen ≡ before ++ turn ∷ []
  pub later : length old.seen ≤ length before

-- The event found nothing to do after so many turns, and no turn was made.
pub record TriesNothing (old new : Pass) (at : ℕ) (event : Event) (turns : ℕ) : Type 0 where
  pub sees : Sees old new []
  pub nothing : FindsNothing new at event
  pub count : turns ≡ length new.seen

-- It found something to do, and there were as many turns as there may be.
pub record IsFull (new : Pass) (at : ℕ) (event : Event) (turns : ℕ) : Type 0 where
  pub something : FindsSomething new at event
  pub full : length new.seen ≡ new.cap
  pub count : turns ≡ new.cap

-- what one try of an event comes to
abbrev pub Tries : Pass → Pass → ℕ → Event → Result Turned TurnError → Type 0
Tries old new at event (Ok (Done out)) = Makes old new at event out
Tries old new at event (Ok (Nothing turns)) = TriesNothing old new at event turns
Tries old new at event (Err (Full turns)) = Sees old new [] × IsFull new at event turns
Tries old new at event (Err Memory) = Sees old new []
