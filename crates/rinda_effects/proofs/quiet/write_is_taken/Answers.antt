use Rattle.rinda_effects.proofs.Written.{write_is_taken}
use Rattle.rinda_effects.proofs.quiet.write_is_taken.Goals as goal

pub returns : goal.returns
returns c start old caller at s value lease r quiet lasts there e = write_is_taken start old caller at s value lease r quiet lasts there e
