use Rattle.std.proofs.Common.{refl}
use Rattle.rinda_effects.proofs.Picking.{request_unserved}
use Rattle.rinda_effects.proofs.serving.lone_request_is_not_served.Goals as goal

pub returns : goal.returns
returns c id s h lone = (request_unserved id s h.sound.numbered lone h.only, refl)
