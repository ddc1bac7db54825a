use Rattle.rinda_effects.proofs.Written.{write_is_read}
use Rattle.rinda_effects.proofs.quiet.write_is_read.Goals as goal

pub returns : goal.returns
returns c start old caller at s value lease quiet lasts free = write_is_read start old caller at s value lease quiet lasts free
