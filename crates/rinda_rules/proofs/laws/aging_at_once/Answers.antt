use Rattle.rinda_rules.proofs.AtOnce.{aging_at_once}
use Rattle.rinda_rules.proofs.laws.aging_at_once.Goals as goal

pub returns : goal.returns
returns c s sound = aging_at_once s sound
