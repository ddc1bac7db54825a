use Rattle.rinda_rules.proofs.Histories.{Step-is-fixed}
use Rattle.rinda_rules.proofs.laws.step_is_fixed.Goals as goal

pub returns : goal.returns
returns c s caller at event out picks s' = Step-is-fixed s caller at event out picks s'
