use Rattle.rinda_effects.proofs.Naming.{request_served_once}
use Rattle.rinda_effects.proofs.serving.request_is_served_once.Goals as goal

pub returns : goal.returns
returns c id s pick picks s' h serve = request_served_once id s pick picks s' h.sound.numbered h.only serve
