use Rattle.rinda_marks.proofs.Marking.{matched-has}
use Rattle.rinda_marks.proofs.laws.matched_has.Goals as goal

pub returns : goal.returns
returns c = matched-has
