use Rattle.rinda_laws.proofs.Closing.{close_is_last}
use Rattle.rinda_laws.proofs.notifiers.close_is_last.Goals as goal

pub returns : goal.returns
returns c start h turn id n from legal there closed empty asks = close_is_last start h turn id n from legal there closed empty asks
