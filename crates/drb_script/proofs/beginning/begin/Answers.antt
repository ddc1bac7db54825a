use Rattle.drb_script.proofs.Standing.{stands_first}
use Rattle.drb_script.proofs.beginning.begin.Goals as goal

pub returns-clause-stands : goal.returns-clause-stands
returns-clause-stands c = stands_first c.args.patience c.args.call _ c.first.ensures.leaves
