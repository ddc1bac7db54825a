use Rattle.std.proofs.Common.{subst, sym}
use Rattle.rinda_lease.specs.Stages.{AreTimed}
use Rattle.rinda_lease.proofs.Dues.{are_timed}
use Rattle.rinda_lease.proofs.leases.Leases.timed.Goals as goal

pub returns : goal.returns
returns c = rw (← c.self.view_is) (subst (λ ids. AreTimed c.self.inside.stages.entries ids) (sym c.in_ok-ids.ensures) (are_timed c.self.inside.stages.entries c.self.inside.orders.timed.items c.self.invariant.small c.self.invariant.orders.timed))
