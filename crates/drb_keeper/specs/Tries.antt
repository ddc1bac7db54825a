-- The parts of a keeper's step.
use Rattle.std.specs.Prelude.{◌≡◌, ℕ, List, Ok, Err, None, Some}
use Rattle.std.specs.declared.option.Option.{Option}
use Rattle.std.specs.declared.result.Result.{Result}
use Rattle.drb_tree.specs.declared.Remote.{Remote}
use Rattle.drb_packet.specs.declared.request.Limits.{Limits}
use Rattle.rinda_tuple.specs.declared.lease.Life.{Life}
use Rattle.rinda_rules.specs.declared.event.Event.{Event}
use Rattle.rinda_rules.specs.declared.event.Event.TheVariants.{NextAsk}
use Rattle.rinda_rules.specs.declared.out.Out.TheVariants as out
use Rattle.rinda_space.specs.declared.turned.Turned.{Turned}
use Rattle.rinda_space.specs.declared.turned.Turned.TheVariants.{Done}
use Rattle.rinda_space.specs.declared.turned.TurnError.{TurnError}
use Rattle.drb_session.specs.Passes.{Pass, Tries}
use Rattle.drb_session.specs.Runs.{Side, side}
use Rattle.drb_outside.specs.Records.{Record}
use Rattle.drb_keeper.specs.declared.owed.Owed.{Owed}
use Rattle.drb_keeper.specs.declared.owed.KeeperEnd.{KeeperEnd}
use Rattle.drb_keeper.specs.Deeds.{Deed, DoesAll}
use Rattle.drb_keeper.specs.Keeping.{Settles}

-- the event was tried, whatever it was answered
abbrev pub Tells : Pass → Pass → ℕ → Event → Result (Unit {0}) TurnError → Type 0
Tells old new at event (Ok done) = (turned : Turned) × Tries old new at event (Ok turned)
Tells old new at event (Err error) = Tries old new at event (Err error)

-- the id and the renewer of an answer, where it has them
abbrev pub asking_of : Turned → Option (ℕ × Remote)
asking_of (Done (out.Ask id renewer)) = Some (id, renewer)
asking_of turned = None

-- NextAsk was tried, and this was found
abbrev pub AsksNext : Pass → Pass → ℕ → Result (Option (ℕ × Remote)) TurnError → Type 0
AsksNext old new at (Ok found) = (turned : Turned) × Tries old new at NextAsk (Ok turned)
    × (found ≡ asking_of turned)
AsksNext old new at (Err error) = Tries old new at NextAsk (Err error)

-- deeds of which this is said, one after the other
pub record Goes (limits : Limits) (P : List Deed → Option Owed → KeeperEnd → Type 0)
    (after : Option Owed) (old new : Side) (end : KeeperEnd) : Type 0 where
  pub deeds : List Deed
  pub comes : P deeds after end
  pub does : DoesAll limits deeds old new

-- the Asked, whatever the dialer's records are
abbrev pub Settled : Limits → ℕ → Life → Option Owed → Pass → Pass → Option (List ℕ)
    → Option (List ℕ) → KeeperEnd → Type 0
Settled limits id life after p p' r r' end = (c : Option (List Record)) (n : ℕ) →
    Goes limits (Settles id life) after (side p r c n) (side p' r' c n) end
