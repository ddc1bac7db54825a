use Rattle.rinda_marks.proofs.Marking.{matched-has-best}
use Rattle.rinda_marks.proofs.laws.matched_has_best.Goals as goal

pub returns : goal.returns
returns c = matched-has-best
