use Rattle.rinda_journal.proofs.Lengths.{short_enough}
use Rattle.rinda_journal.proofs.laws.fits_is_short.Goals as goal

pub returns : goal.returns
returns c = short_enough
