-- A turn under way. docs/SPACE.md, Phases.
use Rattle.std.specs.Prelude.{◌≡◌, ℕ, ◌<◌, List, ◌++◌, length, Option, Some, None, [], ◌∷◌}
use Rattle.rinda_rules.specs.declared.event.Event.{Event}
use Rattle.rinda_rules.specs.declared.out.Out.{Out}
use Rattle.rinda_rules.specs.declared.turn.Pick.{Pick}
use Rattle.rinda_rules.specs.declared.turn.Turn.{Turn}
use Rattle.rinda_rules.specs.Journals.{made}
use Rattle.rinda_rules.specs.Space.{Plain}
use Rattle.rinda_rules.specs.Phases.{advanced, aged, Serve}
use Rattle.rinda_rules.specs.Steps.{Step}
use Rattle.rinda_rules.specs.Settled.{Settled}
use Rattle.rinda_rules.specs.Sound.{Sound}
use Rattle.rinda_effects.specs.Touches.{Touched}
use Rattle.rinda_effects.specs.Unserved.{Unserved}
use Rattle.rinda_tables.specs.declared.tables.Tables.{Tables}
use Rattle.rinda_tables.specs.Changed.{NamesChanged}
use Rattle.rinda_tables.specs.Holds.{Holds}
use Rattle.rinda_tables.specs.Tabled.{ahead_of, list_of, Unadded}

-- The tables hold one space as they stand and one ahead, and no object was made yet: both have one next id.
pub record Begun (t : Tables) : Type 0 where
  pub stood : Plain
  pub now : Plain
  pub list : Holds stood (list_of t)
  pub ahead : Holds now (ahead_of t)
  pub next : now.next ≡ stood.next
  pub unadded : Unadded t

-- what stands goes on to stand
abbrev pub KeepsList : Tables → Tables → Type 0
KeepsList old new = (s : Plain) → Holds s (list_of old) → Holds s (list_of new)

-- the pick of an event's own case, if there is one
abbrev pub first_of : Option Pick → List Pick
first_of None = []
first_of (Some pick) = pick ∷ []

-- Where the tables held s, and in s once it has aged only what was touched may be served, the picks after the case's
-- own serve it.
abbrev pub Ends : Touched → Option Pick → Tables → Tables → List Pick → Type 0
Ends touched first old new picks = (s : Plain) → Unserved touched (aged s) →
    Holds s (ahead_of old) →
    (s' : Plain) × (rest : List Pick) × (picks ≡ first_of first ++ rest)
    × Serve (aged s) rest s' × Holds s' (ahead_of new)

-- Where the tables held a sound and settled space, advanced to that reading, this is a step from there.
abbrev pub Steps : ℕ → Event → Tables → Tables → Out → List Pick → Type 0
Steps caller event old new out picks = (s : Plain) (at : ℕ) → Sound s → Settled s →
    Holds (advanced s at) (ahead_of old) →
    (s' : Plain) × Step s caller at event out picks s' × Holds s' (ahead_of new)

-- The turn was made ahead, and the journal is ready for it: where the tables held a sound and settled space, the turn
-- is a step from there. What it changed is noted.
pub record IsMade (caller at : ℕ) (event : Event) (turns : List Turn) (cap : ℕ)
    (ready : List Turn) (old new : Tables) (out : Out) (changed : List ℕ) : Type 0 where
  pub picks : List Pick
  pub prepared : ready ≡ turns ++ made caller at event out picks ∷ []
  pub room : length turns < cap
  pub steps : (s : Plain) → Sound s → Settled s → Holds s (ahead_of old) →
      (s' : Plain) × Step s caller at event out picks s' × Holds s' (ahead_of new)
  pub names : NamesChanged new changed
