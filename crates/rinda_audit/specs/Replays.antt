-- What the replay of a turn says. docs/SPACE.md, Histories.
use Rattle.std.specs.Prelude.{◌≡◌, ℕ, ◌<◌, ◌^◌, Bool, true, false, List, [], ◌∷◌, Option, Some, None, IsTrue, if◌then◌else◌}
use Rattle.rinda_rules.specs.declared.out.Out.{Out}
use Rattle.rinda_rules.specs.declared.out.Out.TheVariants as out
use Rattle.rinda_rules.specs.declared.event.Event.TheVariants.{Write, Reserve, Submit, Collect, Settle, Withdraw, Cancel, Renew, Look, Value, ReadAll, Notify, Pop, NextAsk, Asked, Tick, Shut}
use Rattle.rinda_rules.specs.declared.turn.Turn.{Turn}
use Rattle.rinda_rules.specs.declared.turn.Pick.{Pick}
use Rattle.rinda_rules.specs.declared.event.Event.{Event}
use Rattle.rinda_rules.specs.declared.plain.Entry.{Entry}
use Rattle.rinda_rules.specs.Space.{Plain}
use Rattle.rinda_rules.specs.Phases.{aged}
use Rattle.rinda_rules.specs.Cases.{Outcome, outcome}
use Rattle.rinda_rules.specs.Steps.{Step}
use Rattle.rinda_rules.specs.Nothing.{is_nothing}
use Rattle.rinda_rules.specs.Fixed.{served_all, after}

-- the turn, with its picks, is a step from there, and not nothing
pub record IsStep (s : Plain) (turn : Turn) : Type 0 where
  pub something : is_nothing s turn.caller turn.at turn.event ≡ false
  pub step : Step s turn.caller turn.at turn.event turn.out turn.picks (after s turn)

-- this answer and this space
abbrev pub Is : Out → Plain → Outcome → Type 0
Is out s o = (out ≡ o.out) × (s ≡ o.after)

-- the first of a list
abbrev pub first : {A : Type 0} → List A → Option A
first [] = None
first (a ∷ rest) = Some a

-- the event makes an object in a space that takes it, which gets the next id
abbrev pub makes : Event → Bool
makes (Write value lease) = true
makes (Reserve kind pattern lease) = true
makes (Submit id) = false
makes (Collect id) = false
makes (Settle id ok) = false
makes (Withdraw id) = false
makes (Cancel id) = false
makes (Renew id lease) = false
makes (Look id) = false
makes (Value id) = false
makes (ReadAll pattern) = false
makes (Notify event pattern lease) = true
makes (Pop id) = false
makes NextAsk = false
makes (Asked id life) = false
makes Tick = false
makes Shut = false

-- there is an id left for what the event makes
abbrev pub HasRoom : Plain → Event → Type 0
HasRoom s event = s.shut ≡ false → IsTrue (makes event) → s.next < 2 ^ 64

-- Shut in a space that is shut, and else that
abbrev pub unless_shut : Bool → Out → Out
unless_shut shut o = if shut then out.Shut else o

-- the answer has the next id where the event makes an object, or is Shut
abbrev pub TellsId : Bool → ℕ → Event → Out → Type 0
TellsId shut next (Write value lease) o = o ≡ unless_shut shut (out.Entry next)
TellsId shut next (Reserve kind pattern lease) o = o ≡ unless_shut shut (out.Reserved next)
TellsId shut next (Submit id) o = Unit {0}
TellsId shut next (Collect id) o = Unit {0}
TellsId shut next (Settle id ok) o = Unit {0}
TellsId shut next (Withdraw id) o = Unit {0}
TellsId shut next (Cancel id) o = Unit {0}
TellsId shut next (Renew id lease) o = Unit {0}
TellsId shut next (Look id) o = Unit {0}
TellsId shut next (Value id) o = Unit {0}
TellsId shut next (ReadAll pattern) o = Unit {0}
TellsId shut next (Notify event pattern lease) o = o ≡ unless_shut shut (out.Notifier next)
TellsId shut next (Pop id) o = Unit {0}
TellsId shut next NextAsk o = Unit {0}
TellsId shut next (Asked id life) o = Unit {0}
TellsId shut next Tick o = Unit {0}
TellsId shut next Shut o = Unit {0}

-- the answer of the case with that choice, and the space after the picks
abbrev pub case_after : Plain → ℕ → Event → Option Entry → List Pick → Outcome
case_after s caller event choice picks = let o = outcome s caller event choice
    in record { out = o.out; after = served_all (aged o.after) picks }
