use Rattle.std.proofs.Common.{length}
use Rattle.marshal_read.proofs.numbers.+little_of.Given as goal

abbrev pub decreases-little_of : goal.decreases-little_of
decreases-little_of l = length l.bytes.now
