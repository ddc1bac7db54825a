use Rattle.std.proofs.Common.{refl}
use Rattle.rinda_effects.proofs.Picking.{tuple_dead}
use Rattle.rinda_effects.proofs.serving.dead_tuple_is_not_served.Goals as goal

pub returns : goal.returns
returns c id s h dead = (tuple_dead id s h.sound.numbered dead h.only, refl)
