use Rattle.rinda_laws.proofs.Marking.{canceled_is_named}
use Rattle.rinda_laws.proofs.answers.canceled_is_named.Goals as goal

pub returns : goal.returns
returns c start h turn from legal e = canceled_is_named start h turn from legal e
