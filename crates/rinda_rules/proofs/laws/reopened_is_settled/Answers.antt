use Rattle.rinda_rules.proofs.Reopening.{reopens}
use Rattle.rinda_rules.proofs.laws.reopened_is_settled.Goals as goal

pub returns : goal.returns
returns c s sound settled = let again = reopens s sound in (again.sound, again.settled, again.requests)
