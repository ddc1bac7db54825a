-- The history that may have no turn.
use Rattle.std.specs.Prelude.{Bool, true, false, [], None, Ok, Err}
use Rattle.std.specs.declared.result.Result.{Result}
use Rattle.rinda_rules.specs.declared.event.Event.{Event}
use Rattle.rinda_rules.specs.declared.event.Event.TheVariants.{NextAsk, Tick}
use Rattle.drb_session.specs.Passes.{Pass}
use Rattle.rinda_space.specs.declared.turned.Turned.{Turned}
use Rattle.rinda_space.specs.declared.turned.Turned.TheVariants.{Nothing}
use Rattle.rinda_space.specs.declared.turned.TurnError.{TurnError}
use Rattle.rinda_space.specs.declared.turned.TurnError.TheVariants.{Full}

-- what its one caller knows: there is no turn, and there may be none
abbrev pub roomless : Pass
roomless = record {
  caller = 0;
  start = None;
  seen = [];
  mine = [];
  known = 0;
  cap = 0;
  beside = None;
}

-- the events that find nothing to do in the empty space
abbrev pub is_idle : Event → Bool
is_idle NextAsk = true
is_idle Tick = true
is_idle _ = false

-- what a try comes to there
abbrev pub tried : Bool → Result Turned TurnError
tried true = Ok (Nothing 0)
tried false = Err (Full 0)
