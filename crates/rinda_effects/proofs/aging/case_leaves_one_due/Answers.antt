use Rattle.rinda_effects.proofs.Overdue.{case_leaves_one_due}
use Rattle.rinda_effects.proofs.aging.case_leaves_one_due.Goals as goal

pub returns : goal.returns
returns c s caller event choice e = case_leaves_one_due s caller event choice e
