use Rattle.rinda_wait.specs.Probes.{place_in}
use Rattle.rinda_wait.proofs.Indexed.{indexed-taken-row}
use Rattle.rinda_wait.proofs.waits.Waits.collect.Goals as goal

pub invariant_of-self : goal.invariant_of-self
invariant_of-self c = rw (c.take_out.ensures.rest, c.remove_key_of.ensures) (indexed-taken-row (place_in c.self.inside.secret) c.self.inside.table c.self.inside.keys.keys c.args.id c.self.invariant)
