use Rattle.rinda_effects.proofs.Picking.{request_served}
use Rattle.rinda_effects.proofs.serving.request_is_served.Goals as goal

pub returns : goal.returns
returns c s r t h there here e = request_served s r t h.sound.numbered there here e h.only
