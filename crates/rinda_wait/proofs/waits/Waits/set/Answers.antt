use Rattle.std.proofs.Common.{refl}
use Rattle.rinda_rules.specs.Phases.{in_state}
use Rattle.rinda_wait.specs.Probes.{place_in}
use Rattle.rinda_wait.proofs.Indexed.{indexed-same}
use Rattle.rinda_wait.proofs.waits.Waits.set.Goals as goal

pub invariant_of-self : goal.invariant_of-self
invariant_of-self c = rw c.set_state.ensures.list (indexed-same (place_in c.self.inside.secret) c.self.inside.table c.self.inside.keys.keys c.args.id (in_state c.args.state) c.self.invariant (λ t. refl) (λ t. refl))
