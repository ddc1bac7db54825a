use Rattle.rinda_laws.proofs.Expiring.{expired_is_decided}
use Rattle.rinda_laws.proofs.answers.expired_is_decided.Goals as goal

pub returns : goal.returns
returns c start h turn from legal e = expired_is_decided start h turn from legal e
