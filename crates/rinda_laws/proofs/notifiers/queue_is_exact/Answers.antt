use Rattle.rinda_laws.proofs.Queueing.{queue_is_exact}
use Rattle.rinda_laws.proofs.notifiers.queue_is_exact.Goals as goal

pub returns : goal.returns
returns c start before later turn event pattern lease id n from legal is e there = queue_is_exact start before later turn event pattern lease id from legal is e n there
