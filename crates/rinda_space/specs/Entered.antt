-- A space as a machine that many callers enter. docs/SPACE.md, Histories.
use Rattle.std.specs.Prelude.{◌≡◌, ℕ, ◌≤◌, ◌<◌, List, length, Option, Some, None, Ok, Err}
use Rattle.std.specs.declared.result.Result.{Result}
use Rattle.rinda_rules.specs.declared.event.Event.{Event}
use Rattle.rinda_rules.specs.declared.out.Out.{Out}
use Rattle.rinda_rules.specs.declared.turn.Turn.{Turn}
use Rattle.rinda_rules.specs.declared.start.Start.{Start}
use Rattle.rinda_rules.specs.Space.{Plain}
use Rattle.rinda_rules.specs.Legal.{LegalFrom}
use Rattle.rinda_space.specs.declared.turned.TurnError.{TurnError}
use Rattle.rinda_space.specs.declared.turned.TurnError.TheVariants.{Full, Memory}
use Rattle.rinda_space.specs.Spaces.{StartsAt, FindsNothing, FindsSomething}

-- what no turn changes: the stored rows, if any, and how many turns there may be
abbrev pub Basis : Type 0
Basis = Option Start × ℕ

-- the turns are legal from each start, and no more than there may be
abbrev pub IsLawful : Basis → List Turn → Type 0
IsLawful basis turns =
    ((s : Plain) → StartsAt basis.0 s → LegalFrom s turns) × (length turns ≤ basis.1)

-- the turn names this caller, reading, event and answer
abbrev pub Names : Turn → ℕ → ℕ → Event → Out → Type 0
Names turn caller at event out =
    (turn.caller ≡ caller) × (turn.at ≡ at) × (turn.event ≡ event) × (turn.out ≡ out)

-- Nothing exactly where the event finds nothing to do; Full only where it finds something, and there are as many turns
-- as there may be.
abbrev pub Allows : Basis → List Turn → ℕ → ℕ → Event →
    Result (Option Out) TurnError → Type 0
Allows basis turns caller at event (Ok (Some out)) =
    FindsSomething basis.0 turns caller at event × (length turns < basis.1)
Allows basis turns caller at event (Ok None) = FindsNothing basis.0 turns caller at event
Allows basis turns caller at event (Err (Full count)) =
    FindsSomething basis.0 turns caller at event × (length turns ≡ basis.1) × (count ≡ basis.1)
Allows basis turns caller at event (Err Memory) = FindsSomething basis.0 turns caller at event
