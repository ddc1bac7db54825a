use Rattle.rinda_marks.proofs.Marking.{same-marks}
use Rattle.rinda_marks.proofs.laws.same_marks.Goals as goal

pub returns : goal.returns
returns c = same-marks
