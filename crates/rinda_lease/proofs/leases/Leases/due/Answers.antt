use Rattle.rinda_lease.proofs.Dues.{due_sorted}
use Rattle.rinda_lease.proofs.leases.Leases.due.Goals as goal

pub returns : goal.returns
returns c = rw (← c.self.view_is) (due_sorted c.args.now c.self.inside.stages.entries c.self.inside.orders.timed.items c.in_ok-ids.ids.items c.sort_unstable.new.self.items c.self.invariant.small c.self.invariant.orders.timed c.in_ok-ids.ensures c.sort_unstable.ensures.permutation c.sort_unstable.ensures.sorted)
