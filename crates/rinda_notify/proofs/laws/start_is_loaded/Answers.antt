use Rattle.rinda_notify.proofs.Ended.{loads_all}
use Rattle.rinda_notify.proofs.laws.start_is_loaded.Goals as goal

pub returns : goal.returns
returns c start s stands = loads_all start.leases s.events start.notes s.notifiers stands.notifiers
