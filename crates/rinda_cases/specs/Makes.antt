-- What a case makes of the space that tables hold. docs/SPACE.md, Cases.
use Rattle.std.specs.Prelude.{◌≡◌, ℕ, Bool, true, false, not, map, Option, Some, None}
use Rattle.rinda_rules.specs.declared.event.Event.{Event}
use Rattle.rinda_rules.specs.declared.event.Event.TheVariants as event
use Rattle.rinda_rules.specs.declared.out.Out.TheVariants as out
use Rattle.rinda_rules.specs.declared.plain.Happening.TheVariants as happening
use Rattle.rinda_tuple.specs.declared.tuple.Tuple.{Tuple}
use Rattle.rinda_rules.specs.declared.out.Out.{Out}
use Rattle.rinda_rules.specs.declared.turn.Pick.{Pick}
use Rattle.rinda_rules.specs.declared.plain.Entry.{Entry}
use Rattle.rinda_rules.specs.declared.plain.Request.{Request}
use Rattle.rinda_rules.specs.declared.plain.Notifier.{Notifier}
use Rattle.rinda_rules.specs.Space.{Plain, tuple_at, request_at, notifier_at, is_read}
use Rattle.rinda_rules.specs.Phases.{is_match, raised}
use Rattle.rinda_rules.specs.Cases.{Outcome, outcome, read_by}
use Rattle.rinda_rules.specs.Steps.{chooser}
use Rattle.rinda_rules.specs.Sound.{Sound}
use Rattle.rinda_bag.specs.Wanted.{least_wanted}
use Rattle.rinda_tables.specs.Holds.{Holds}
use Rattle.rinda_tables.specs.Tabled.{ahead_of, new_entry, with_passed_tuple}
use Rattle.rinda_tables.specs.declared.tables.Tables.{Tables}

-- the answer is that of the case, and the tables hold what it leaves
abbrev pub Is : Outcome → Tables → Out → Type 0
Is case new out = (out ≡ case.out) × Holds case.after (ahead_of new)

-- Where the tables held a sound space ahead, the answer is that of its case, and they hold what the case leaves.
abbrev pub Makes : (Plain → Outcome) → Tables → Tables → Out → Type 0
Makes case old new out = (s : Plain) → Sound s → Holds s (ahead_of old) → Is (case s) new out

-- the same, of any space, by what they held of the tuple with that id
abbrev pub MakesBy : ℕ → (Entry → Plain → Outcome) → Tables → Tables → Out → Type 0
MakesBy id case old new out = (s : Plain) (e : Entry) → Holds s (ahead_of old) →
    tuple_at s id ≡ Some e → Is (case e s) new out

-- and of the request
abbrev pub MakesFor : ℕ → (Request → Plain → Outcome) → Tables → Tables → Out → Type 0
MakesFor id case old new out = (s : Plain) (r : Request) → Holds s (ahead_of old) →
    request_at s id ≡ Some r → Is (case r s) new out

-- and of the notifier
abbrev pub MakesOf : ℕ → (Notifier → Plain → Outcome) → Tables → Tables → Out → Type 0
MakesOf id case old new out = (s : Plain) (n : Notifier) → Holds s (ahead_of old) →
    notifier_at s id ≡ Some n → Is (case n s) new out

-- the least id of a tuple that the request may have
abbrev pub least_match : Plain → Request → Option ℕ
least_match s r = least_wanted s.clock (not (is_read r.kind)) r.pattern s.tuples

-- The case with the match that it picked, if it picks one: the event's own case picks none where nobody chooses, and
-- else the least match of the one who does.
abbrev pub IsPicked : Plain → ℕ → Event → Tables → Out → Option Pick → Type 0
IsPicked s caller event new out None =
    (chooser s caller event ≡ None) × Is (outcome s caller event None) new out
IsPicked s caller event new out (Some pick) =
    (r : Request) × (chooser s caller event ≡ Some r) × (is_match s r pick ≡ true)
    × (least_match s r ≡ Some pick.tuple)
    × Is (outcome s caller event (tuple_at s pick.tuple)) new out

-- Where the tables held a sound space ahead, this is the answer to the event there, with this pick.
abbrev pub Answers : ℕ → Event → Tables → Tables → Out → Option Pick → Type 0
Answers caller event old new out pick = (s : Plain) → Sound s → Holds s (ahead_of old) →
    IsPicked s caller event new out pick

-- the request that the event submits, if it submits one
abbrev pub submitted : Event → Option ℕ
submitted (event.Submit id) = Some id
submitted _ = None

-- the answer where there is nothing yet, to one who waits and to one who doesn't
abbrev pub nothing_for : Bool → Out
nothing_for true = out.NotYet
nothing_for false = out.WouldWait

-- a tuple that has expired as it is written: it has its id, is read, and raised as written and as deleted
abbrev pub written_past : Tuple → Plain → Plain
written_past value s =
    let t = new_entry s.next value None None
    in raised happening.Delete t (raised happening.Write t
    (let p = with_passed_tuple s in record p { requests = map (read_by value) p.requests }))
