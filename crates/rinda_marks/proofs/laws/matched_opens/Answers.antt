use Rattle.rinda_marks.proofs.Marking.{matched-opens}
use Rattle.rinda_marks.proofs.laws.matched_opens.Goals as goal

pub returns : goal.returns
returns c = matched-opens
