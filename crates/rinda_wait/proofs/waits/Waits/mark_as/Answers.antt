use Rattle.std.proofs.Common.{refl}
use Rattle.rinda_wait.specs.Waiting.{marked_as}
use Rattle.rinda_wait.specs.Probes.{place_in}
use Rattle.rinda_wait.proofs.Indexed.{indexed-same}
use Rattle.rinda_wait.proofs.waits.Waits.mark_as.Goals as goal

pub invariant_of-self : goal.invariant_of-self
invariant_of-self c = rw c.mark_as.ensures (indexed-same (place_in c.self.inside.secret) c.self.inside.table c.self.inside.keys.keys c.args.id (marked_as c.args.marked) c.self.invariant (λ t. refl) (λ t. refl))
