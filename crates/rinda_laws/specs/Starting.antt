-- Where a history may start, and what was raised since. docs/SPACE.md, Histories.
use Rattle.std.specs.Prelude.{◌≡◌, List, [], drop, length}
use Rattle.rinda_rules.specs.declared.plain.Raised.{Raised}
use Rattle.rinda_rules.specs.Space.{Plain, opening}
use Rattle.rinda_rules.specs.Settled.{Settled}
use Rattle.rinda_rules.specs.Sound.{Sound}
use Rattle.rinda_rules.specs.Reopened.{reopened}

-- A history starts from a space that is sound and settled and has no requests, as the opening is, and what is opened
-- again.
pub record IsStart (s : Plain) : Type 0 where
  pub sound : Sound s
  pub settled : Settled s
  pub alone : s.requests ≡ []

-- A history may start from the space before the first turn, and from any sound and settled one that is opened again.
abbrev pub OpeningIsStart : Type 0
OpeningIsStart = IsStart opening

abbrev pub ReopenedIsStart : Type 0
ReopenedIsStart = (s : Plain) → Sound s → Settled s → IsStart (reopened s)

-- the events that were raised in the later space and not yet in the first one
abbrev pub raised_since : Plain → Plain → List Raised
raised_since first later = drop (length first.events) later.events
