use Rattle.std.proofs.Common.{refl}
use Rattle.rinda_wait.specs.Waiting.{canceled}
use Rattle.rinda_wait.specs.Probes.{place_in}
use Rattle.rinda_wait.proofs.Indexed.{indexed-same}
use Rattle.rinda_wait.proofs.waits.Waits.mark.Goals as goal

pub invariant_of-self : goal.invariant_of-self
invariant_of-self c = rw c.mark_as.ensures (indexed-same (place_in c.self.inside.secret) c.self.inside.table c.self.inside.keys.keys c.args.id canceled c.self.invariant (λ t. refl) (λ t. refl))
