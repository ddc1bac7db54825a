use Rattle.rinda_rules.specs.Legal.{plain_from}
use Rattle.rinda_laws.proofs.Turning.{sound_from}
use Rattle.rinda_laws.proofs.Letting.{held_granted, granted_held}
use Rattle.rinda_laws.proofs.holders.held_is_granted.Goals as goal

pub returns : goal.returns
returns c start h request id from legal = (
  λ holds. held_granted (plain_from start h) (sound_from start h legal from.sound) request id holds,
  λ owner owns. granted_held (plain_from start h) (sound_from start h legal from.sound) owner request id owns,
)
