use Rattle.rinda_laws.proofs.Letting.{held_stays}
use Rattle.rinda_laws.proofs.holders.held_stays.Goals as goal

pub returns : goal.returns
returns c start h turn owner request id from legal holds owns not = held_stays start h turn owner request id from legal holds owns not
