use Rattle.std.proofs.Common.{refl}
use Rattle.rinda_wait.specs.Waiting.{asked}
use Rattle.rinda_wait.specs.Probes.{place_in}
use Rattle.rinda_wait.proofs.Indexed.{indexed-same}
use Rattle.rinda_wait.proofs.waits.Waits.ask.Goals as goal

pub invariant_of-self : goal.invariant_of-self
invariant_of-self c = rw c.ask.ensures (indexed-same (place_in c.self.inside.secret) c.self.inside.table c.self.inside.keys.keys c.args.id asked c.self.invariant (λ t. refl) (λ t. refl))
