use Rattle.rinda_laws.proofs.Letting.{taken_by_settle}
use Rattle.rinda_laws.proofs.holders.held_is_taken_by_settle.Goals as goal

pub returns : goal.returns
returns c start h turn request id from legal holds taken = taken_by_settle start h turn request id from legal holds taken
