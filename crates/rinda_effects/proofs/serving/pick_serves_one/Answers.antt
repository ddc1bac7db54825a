use Rattle.rinda_effects.proofs.Lessening.{pick_serves_one}
use Rattle.rinda_effects.proofs.serving.pick_serves_one.Goals as goal

pub returns : goal.returns
returns c s pick sound e = pick_serves_one s pick sound.numbered e
