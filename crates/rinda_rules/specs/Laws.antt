-- What is proved of the rules themselves.
use Rattle.std.specs.Prelude.{◌≡◌, ℕ, true, List, [], ◌↔◌}
use Rattle.rinda_rules.specs.declared.event.Event.{Event}
use Rattle.rinda_rules.specs.declared.out.Out.{Out}
use Rattle.rinda_rules.specs.declared.turn.Pick.{Pick}
use Rattle.rinda_rules.specs.declared.turn.Turn.{Turn}
use Rattle.rinda_rules.specs.Space.{Plain, opening}
use Rattle.rinda_rules.specs.Phases.{aged}
use Rattle.rinda_rules.specs.Steps.{Step}
use Rattle.rinda_rules.specs.Fixed.{turn_with, picks_fit}
use Rattle.rinda_rules.specs.Settled.{Settled}
use Rattle.rinda_rules.specs.Sound.{Sound}
use Rattle.rinda_rules.specs.AtOnce.{aged_at_once}
use Rattle.rinda_rules.specs.Reopened.{reopened}
use Rattle.rinda_rules.specs.Legal.{LegalFrom, plain_from}

-- the picks of a turn fix its answer and the space that it leaves
abbrev pub StepIsFixed : Type 0
StepIsFixed = (s : Plain) (caller at : ℕ) (event : Event) (out : Out) (picks : List Pick)
    (s' : Plain) →
    Step s caller at event out picks s'
    ↔ ((picks_fit s caller at event picks ≡ true)
    × (out ≡ (turn_with s caller at event picks).out)
    × (s' ≡ (turn_with s caller at event picks).after))

-- in a sound space, aging row by row and aging each list at once are the same
abbrev pub AgingAtOnce : Type 0
AgingAtOnce = (s : Plain) → Sound s → aged s ≡ aged_at_once s

-- a step leads from a sound and settled space to a sound and settled one
abbrev pub SettledIsKept : Type 0
SettledIsKept = (s : Plain) (caller at : ℕ) (event : Event) (out : Out) (picks : List Pick)
    (s' : Plain) →
    Sound s → Settled s → Step s caller at event out picks s' → Sound s' × Settled s'

-- so does every history that is legal from such a space
abbrev pub LegalIsSettled : Type 0
LegalIsSettled = (s : Plain) (h : List Turn) →
    Sound s → Settled s → LegalFrom s h → Sound (plain_from s h) × Settled (plain_from s h)

-- the opening is sound and settled
abbrev pub OpeningIsSettled : Type 0
OpeningIsSettled = Sound opening × Settled opening

-- and so is a space that is opened again, which has no requests
abbrev pub ReopenedIsSettled : Type 0
ReopenedIsSettled = (s : Plain) →
    Sound s → Settled s → Sound (reopened s) × Settled (reopened s) × ((reopened s).requests ≡ [])
