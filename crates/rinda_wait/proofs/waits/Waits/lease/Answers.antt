use Rattle.std.proofs.Common.{refl}
use Rattle.rinda_wait.specs.Waiting.{leased}
use Rattle.rinda_wait.specs.Probes.{place_in}
use Rattle.rinda_wait.proofs.Indexed.{indexed-same}
use Rattle.rinda_wait.proofs.waits.Waits.lease.Goals as goal

pub invariant_of-self : goal.invariant_of-self
invariant_of-self c = rw c.lease.ensures.list (indexed-same (place_in c.self.inside.secret) c.self.inside.table c.self.inside.keys.keys c.args.id (leased c.args.deadline c.args.renewer c.args.doubt) c.self.invariant (λ t. refl) (λ t. refl))
