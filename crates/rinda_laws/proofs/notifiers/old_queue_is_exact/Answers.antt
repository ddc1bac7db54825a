use Rattle.rinda_laws.proofs.Queueing.{old_queue_is_exact}
use Rattle.rinda_laws.proofs.notifiers.old_queue_is_exact.Goals as goal

pub returns : goal.returns
returns c start h id first n from legal was there = old_queue_is_exact start h id first n from legal was there
