use Rattle.rinda_effects.proofs.Picking.{tuple_read}
use Rattle.rinda_effects.proofs.serving.tuple_is_read.Goals as goal

pub returns : goal.returns
returns c s t ids h here readers free = tuple_read s t ids h.sound.numbered here readers free h.only
