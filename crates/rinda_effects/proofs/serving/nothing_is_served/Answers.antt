use Rattle.std.proofs.Common.{refl}
use Rattle.rinda_effects.proofs.Kept.{nobody}
use Rattle.rinda_effects.proofs.serving.nothing_is_served.Goals as goal

pub returns : goal.returns
returns c s h = (nobody s h.only, refl)
