use Rattle.rinda_effects.proofs.Picking.{readers_in_order}
use Rattle.rinda_effects.proofs.serving.readers_in_order.Goals as goal

pub returns : goal.returns
returns c s t sound = readers_in_order s t sound.numbered
