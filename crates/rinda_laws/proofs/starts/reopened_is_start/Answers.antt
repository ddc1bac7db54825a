use Rattle.rinda_rules.proofs.Reopening.{reopens}
use Rattle.rinda_laws.proofs.starts.reopened_is_start.Goals as goal

pub returns : goal.returns
returns c s sound settled =
    let again = reopens s sound in
    record { sound = again.sound; settled = again.settled; alone = again.requests }
