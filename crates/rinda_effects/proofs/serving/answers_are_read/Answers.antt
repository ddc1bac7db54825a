use Rattle.rinda_effects.proofs.Picking.{answers_are_read}
use Rattle.rinda_effects.proofs.serving.answers_are_read.Goals as goal

pub returns : goal.returns
returns c s t ids sound readers = answers_are_read ids s t sound.numbered readers
