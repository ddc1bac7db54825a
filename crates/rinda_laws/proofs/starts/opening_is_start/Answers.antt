use Rattle.std.proofs.Common.{refl}
use Rattle.rinda_rules.proofs.Sounding.{sound_opening}
use Rattle.rinda_rules.proofs.Settling.{settled_opening}
use Rattle.rinda_laws.proofs.starts.opening_is_start.Goals as goal

pub returns : goal.returns
returns c = record { sound = sound_opening; settled = settled_opening; alone = refl }
