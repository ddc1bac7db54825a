-- A space that keeps its history, and what one turn of it comes to. docs/SPACE.md, Histories.
use Rattle.std.specs.Prelude.{◌≡◌, ℕ, ◌+◌, ◌^◌, ◌≤◌, ◌<◌, Bool, true, false, List, [], ◌∷◌, ◌++◌, length, Option, Some, None, Ok, Err}
use Rattle.std.specs.declared.result.Result.{Result}
use Rattle.rinda_rules.specs.declared.event.Event.{Event}
use Rattle.rinda_rules.specs.declared.out.Out.{Out}
use Rattle.rinda_rules.specs.declared.turn.Pick.{Pick}
use Rattle.rinda_rules.specs.declared.turn.Turn.{Turn}
use Rattle.rinda_rules.specs.declared.start.Start.{Start}
use Rattle.rinda_rules.specs.Journals.{made}
use Rattle.rinda_rules.specs.declared.journal.JournalError.{JournalError}
use Rattle.rinda_rules.specs.declared.journal.JournalError.TheVariants as journal
use Rattle.rinda_rules.specs.Space.{Plain, opening}
use Rattle.rinda_rules.specs.Starts.{StandsFor}
use Rattle.rinda_rules.specs.Legal.{LegalFrom, plain_from}
use Rattle.rinda_rules.specs.Nothing.{is_nothing}
use Rattle.rinda_rules.specs.Settled.{Settled}
use Rattle.rinda_rules.specs.Sound.{Sound}
use Rattle.rinda_effects.specs.Turns.{Reached}
use Rattle.rinda_tables.specs.declared.tables.Tables.{Tables}
use Rattle.rinda_tables.specs.Holds.{Holds}
use Rattle.rinda_tables.specs.Changed.{is_changed}
use Rattle.rinda_tables.specs.Tabled.{ahead_of, list_of, Unadded}
use Rattle.rinda_tables.specs.Undoing.{is_in}
use Rattle.rinda_space.specs.declared.turned.Turned.{Turned}
use Rattle.rinda_space.specs.declared.turned.Turned.TheVariants.{Done, Nothing}
use Rattle.rinda_space.specs.declared.turned.TurnError.{TurnError}
use Rattle.rinda_space.specs.declared.turned.TurnError.TheVariants.{Full, Memory}

-- the stored rows that the history starts from, if it doesn't start from the empty space; the turns that were made; and
-- how many there may be
pub record Spaced : Type 0 where
  pub start : Option Start
  pub turns : List Turn
  pub cap : ℕ

abbrev pub spaced : Option Start → List Turn → ℕ → Spaced
spaced start turns cap = record { start = start; turns = turns; cap = cap }

-- A space that the histories start from: the empty one, or a sound one that the stored rows stand for.
abbrev pub StartsAt : Option Start → Plain → Type 0
StartsAt None s = s ≡ opening
StartsAt (Some start) s = StandsFor start s × Sound s

-- the event finds nothing to do after these turns, from wherever they start
abbrev pub FindsNothing : Option Start → List Turn → ℕ → ℕ → Event → Type 0
FindsNothing start turns caller at event =
    (s : Plain) → StartsAt start s → is_nothing (plain_from s turns) caller at event ≡ true

-- it finds something to do there
abbrev pub FindsSomething : Option Start → List Turn → ℕ → ℕ → Event → Type 0
FindsSomething start turns caller at event =
    (s : Plain) → StartsAt start s → is_nothing (plain_from s turns) caller at event ≡ false

-- Some space is the start. The turns are legal from each start, and no more than there may be.
pub record IsLegal (v : Spaced) : Type 0 where
  pub origin : Plain
  pub starts : StartsAt v.start origin
  pub legal : (s : Plain) → StartsAt v.start s → LegalFrom s v.turns
  pub few : length v.turns ≤ v.cap
  pub short : length v.turns < 2 ^ 64

-- The turn was made: the event found something to do, there was room, and its history is one turn longer.
pub record IsDone (caller at : ℕ) (event : Event) (old new : Spaced) (out : Out) : Type 0 where
  pub something : FindsSomething old.start old.turns caller at event
  pub room : length old.turns < old.cap
  pub picks : List Pick
  pub turns : new.turns ≡ old.turns ++ made caller at event out picks ∷ []
  pub cap : new.cap ≡ old.cap
  pub start : new.start ≡ old.start

-- What one turn comes to. Nothing exactly where the event is nothing. Where it isn't, Full only where there are as many
-- turns as there may be, and nothing but Full and Memory there. Whatever isn't Done leaves the space.
abbrev pub TurnsTo : ℕ → ℕ → Event → Spaced → Spaced → Result Turned TurnError → Type 0
TurnsTo caller at event old new (Ok (Done out)) = IsDone caller at event old new out
TurnsTo caller at event old new (Ok (Nothing turns)) =
    FindsNothing old.start old.turns caller at event × (turns ≡ length old.turns) × (new ≡ old)
TurnsTo caller at event old new (Err (Full turns)) =
    FindsSomething old.start old.turns caller at event × (length old.turns ≡ old.cap)
    × (turns ≡ length old.turns) × (new ≡ old)
TurnsTo caller at event old new (Err Memory) =
    FindsSomething old.start old.turns caller at event × (new ≡ old)

-- A space may start from these rows: they stand for a sound one, each such is settled, and there are ids for all turns.
pub record MayStart (start : Start) (cap : ℕ) : Type 0 where
  pub origin : Plain
  pub starts : StartsAt (Some start) origin
  pub settled : (s : Plain) → StartsAt (Some start) s → Settled s
  pub room : start.next + cap ≤ 2 ^ 64

-- What is kept for proofs alone: no start, or that one.
abbrev pub start_of : List (Start × Bool) → Option Start
start_of [] = None
start_of (kept ∷ rest) = Some kept.0

-- Each request and notifier that the last turn changed, from wherever the turns start, is one of these.
abbrev pub NamesLast : Option Start → List Turn → List ℕ → Type 0
NamesLast start turns ids = (before : List Turn) (turn : Turn) → turns ≡ before ++ turn ∷ [] →
    (s : Plain) → StartsAt start s → (id : ℕ) →
    is_changed (plain_from s before) (plain_from s turns) id ≡ true → is_in ids id ≡ true

-- The tables hold each space that the turns lead to from a start, as it stands and as it is ahead. While there are
-- fewer turns than `room`, there is one more id; and there may be no more turns than that, where a u64 can count them.
-- What the last turn changed is noted.
pub record IsSpace (v : Spaced) (room : ℕ) (changed : List ℕ) (tables : Tables) : Type 0 where
  pub origin : Plain
  pub starts : StartsAt v.start origin
  pub reached : (s : Plain) → StartsAt v.start s → Reached s v.turns
  pub list : (s : Plain) → StartsAt v.start s → Holds (plain_from s v.turns) (list_of tables)
  pub ahead : (s : Plain) → StartsAt v.start s → Holds (plain_from s v.turns) (ahead_of tables)
  pub unadded : Unadded tables
  pub ids : (s : Plain) → StartsAt v.start s →
      (plain_from s v.turns).next + room ≤ 2 ^ 64 + length v.turns
  pub few : length v.turns ≤ v.cap
  pub bound : room + 1 < 2 ^ 64 → v.cap ≤ room
  pub fits : room < 2 ^ 64
  pub names : NamesLast v.start v.turns changed

-- why no turn was made, as the journal has it
abbrev pub error_of : ℕ → JournalError → TurnError
error_of turns journal.Full = Full turns
error_of turns journal.Memory = Memory
