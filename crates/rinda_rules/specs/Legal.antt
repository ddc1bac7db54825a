-- The histories that a space may have. docs/SPACE.md, Histories.
use Rattle.std.specs.Prelude.{◌≡◌, false, List, [], ◌∷◌}
use Rattle.rinda_rules.specs.declared.turn.Turn.{Turn}
use Rattle.rinda_rules.specs.Space.{Plain, opening}
use Rattle.rinda_rules.specs.Steps.{Step}
use Rattle.rinda_rules.specs.Fixed.{after}
use Rattle.rinda_rules.specs.Settled.{Settled}
use Rattle.rinda_rules.specs.Nothing.{is_nothing}

-- The turn may come in this space: it was not nothing, is a step with its own answer and picks, and leaves it settled.
pub record MayCome (s : Plain) (turn : Turn) : Type 0 where
  pub something : is_nothing s turn.caller turn.at turn.event ≡ false
  pub step : Step s turn.caller turn.at turn.event turn.out turn.picks (after s turn)
  pub settled : Settled (after s turn)

-- the space after these turns
abbrev pub plain_from : Plain → List Turn → Plain
plain_from s [] = s
plain_from s (turn ∷ turns) = plain_from (after s turn) turns

abbrev pub plain : List Turn → Plain
plain turns = plain_from opening turns

-- each turn may come where the turns before it lead
abbrev pub LegalFrom : Plain → List Turn → Type 0
LegalFrom s [] = Unit {0}
LegalFrom s (turn ∷ turns) = MayCome s turn × LegalFrom (after s turn) turns

abbrev pub Legal : List Turn → Type 0
Legal turns = LegalFrom opening turns
