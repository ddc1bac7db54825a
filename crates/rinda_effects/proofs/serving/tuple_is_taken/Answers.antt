use Rattle.rinda_effects.proofs.Picking.{tuple_taken}
use Rattle.rinda_effects.proofs.serving.tuple_is_taken.Goals as goal

pub returns : goal.returns
returns c s t ids r h here readers there e = tuple_taken s t ids r h.sound.numbered here readers there e h.only
