use Rattle.rinda_effects.proofs.Naming.{picks_name}
use Rattle.rinda_effects.proofs.serving.picks_name_touched.Goals as goal

pub returns : goal.returns
returns c touched s picks s' h serve = picks_name touched s picks s' h.sound.numbered h.only serve
