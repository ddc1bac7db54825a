-- The same as a function: what the picks of a turn fix. It is proved to say what Step says (`step_is_fixed`).
use Rattle.std.specs.Prelude.{ℕ, Bool, false, ◌&&◌, List, [], ◌∷◌, Option, Some, None}
use Rattle.rinda_rules.specs.declared.event.Event.{Event}
use Rattle.rinda_rules.specs.declared.turn.Pick.{Pick}
use Rattle.rinda_rules.specs.declared.turn.Turn.{Turn}
use Rattle.rinda_rules.specs.declared.plain.Request.{Request}
use Rattle.rinda_rules.specs.Space.{Plain, tuple_at}
use Rattle.rinda_rules.specs.Phases.{aged, is_match, may_serve, served, nobody_waits}
use Rattle.rinda_rules.specs.Cases.{Outcome, outcome}
use Rattle.rinda_rules.specs.Steps.{chooser, found_by}

-- the space after these picks
abbrev pub served_all : Plain → List Pick → Plain
served_all s [] = s
served_all s (pick ∷ picks) = served_all (served s pick) picks

-- each pick may be served in its turn, and then nobody waits beside a match
abbrev pub picks_serve : Plain → List Pick → Bool
picks_serve s [] = nobody_waits s
picks_serve s (pick ∷ picks) = may_serve s pick && picks_serve (served s pick) picks

-- the answer and the space after the event and these picks
abbrev pub case_with : Plain → ℕ → Event → Option Request → List Pick → Outcome
case_with s caller event None picks =
    let o = outcome s caller event None
    in record { out = o.out; after = served_all (aged o.after) picks }
case_with s caller event (Some r) [] = record { out = (outcome s caller event None).out; after = s }
case_with s caller event (Some r) (pick ∷ picks) =
    let o = outcome s caller event (tuple_at s pick.tuple)
    in record { out = o.out; after = served_all (aged o.after) picks }

-- these picks may be made in the event's own case and in what follows it
abbrev pub picks_fit_case : Plain → ℕ → Event → Option Request → List Pick → Bool
picks_fit_case s caller event None picks =
    picks_serve (aged (outcome s caller event None).after) picks
picks_fit_case s caller event (Some r) [] = false
picks_fit_case s caller event (Some r) (pick ∷ picks) =
    is_match s r pick && picks_serve (aged (outcome s caller event (tuple_at s pick.tuple)).after)
    picks

-- the answer and the space that a turn's picks fix
abbrev pub turn_with : Plain → ℕ → ℕ → Event → List Pick → Outcome
turn_with s caller at event picks =
    case_with (found_by s at) caller event (chooser (found_by s at) caller event) picks

-- these picks may be made in the turn
abbrev pub picks_fit : Plain → ℕ → ℕ → Event → List Pick → Bool
picks_fit s caller at event picks =
    picks_fit_case (found_by s at) caller event (chooser (found_by s at) caller event) picks

-- the space after a turn
abbrev pub after : Plain → Turn → Plain
after s turn = (turn_with s turn.caller turn.at turn.event turn.picks).after
