-- The turns and the outgoing calls among actions.
use Rattle.std.specs.Prelude.{◌≡◌, ℕ, List, [], ◌∷◌, map, ⊤}
use Rattle.drb_outside.specs.Records.{Record}
use Rattle.rinda_rules.specs.declared.turn.Turn.{Turn}
use Rattle.drb_dispatch.specs.declared.place.Place.{Place}
use Rattle.drb_script.specs.Stands.{Action, turned, called}
use Rattle.drb_session.specs.Peers.{Says, Caused}

-- the turns among the actions
abbrev pub turns_of : List Action → List Turn
turns_of [] = []
turns_of (turned t ∷ actions) = t ∷ turns_of actions
turns_of (called to saying back ∷ actions) = turns_of actions

-- the readings of the clock that turns name
abbrev pub ats_of : List Turn → List ℕ
ats_of turns = map (λ t. t.at) turns

-- what the outgoing calls among the actions do to the records of the dialer, one after the other
abbrev pub CallsAll : Place → List Action → List Record → List Record → Type 0
CallsAll place [] old new = new ≡ old
CallsAll place (turned t ∷ actions) old new = CallsAll place actions old new
CallsAll place (called to saying back ∷ actions) old new =
    (between : List Record) × Says place to saying back old between
    × CallsAll place actions between new

-- each of them has its cause
abbrev pub CausedAll : Place → ℕ → ℕ → List Action → Type 0
CausedAll place before now [] = ⊤
CausedAll place before now (turned t ∷ actions) = CausedAll place before now actions
CausedAll place before now (called to saying back ∷ actions) =
    Caused place before now to saying back × CausedAll place before now actions
