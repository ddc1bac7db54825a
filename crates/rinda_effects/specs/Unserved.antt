-- The space before it is served.
use Rattle.std.specs.Prelude.{◌≡◌, ℕ, true, Option}
use Rattle.rinda_rules.specs.declared.event.Event.{Event}
use Rattle.rinda_rules.specs.declared.plain.Entry.{Entry}
use Rattle.rinda_rules.specs.Space.{Plain}
use Rattle.rinda_rules.specs.Phases.{aged, nothing_due}
use Rattle.rinda_rules.specs.Cases.{outcome}
use Rattle.rinda_rules.specs.Steps.{found_by}
use Rattle.rinda_rules.specs.Sound.{Sound}
use Rattle.rinda_effects.specs.Touches.{Touched, waits_only}

-- the space after the event's own case, with that choice, and aging, before it is served
abbrev pub unserved : Plain → ℕ → ℕ → Event → Option Entry → Plain
unserved s caller at event choice = aged (outcome (found_by s at) caller event choice).after

-- A sound space that is to be served: nothing is due, and nobody waits beside a match but for what is touched.
pub record Unserved (touched : Touched) (s : Plain) : Type 0 where
  pub sound : Sound s
  pub only : waits_only touched s ≡ true
  pub not_due : nothing_due s ≡ true
