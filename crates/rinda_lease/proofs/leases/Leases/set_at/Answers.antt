use Rattle.std.proofs.Common.{arith}
use Rattle.rinda_lease.specs.declared.stage.Stage.TheVariants.{Still}
use Rattle.rinda_lease.specs.Stages.{stage_at}
use Rattle.rinda_lease.specs.Orders.{AreOrders, placed}
use Rattle.rinda_lease.proofs.Ties.{rising_orders, orders_moved, had, here_now, tied_after}
use Rattle.rinda_lease.proofs.leases.Leases.set_at.Goals as goal

left : (c : goal.After-enter-arg-1) → AreOrders (placed c.args.id Still (stage_at c.self.inside.stages.entries)) c.leave.new.orders
left c = c.leave.ensures.orders (stage_at c.self.inside.stages.entries)
    (orders_moved (stage_at c.self.inside.stages.entries) c.self.inside.orders c.make_room.new.orders c.make_room.ensures.timed c.make_room.ensures.doubted c.self.invariant.orders)
    (had _ _ _ c.in-Ok.ensures.old c.unwrap_or.ensures)

pub enter-requires-clause-rise : goal.enter-requires-clause-rise
enter-requires-clause-rise c = rising_orders _ c.leave.new.orders (left c)

pub enter-requires-clause-room : goal.enter-requires-clause-room
enter-requires-clause-room c = c.leave.ensures.room 1 c.in_ok-make_room.ensures.room

pub invariant_of-self-in-Ok : goal.invariant_of-self-in-Ok
invariant_of-self-in-Ok c =
    let es = c.self.inside.stages.entries in
    let was : AreOrders (placed c.args.id Still (stage_at es)) c.leave.new.orders = c.leave.ensures.orders (stage_at es)
    (orders_moved (stage_at es) c.self.inside.orders c.make_room.new.orders c.make_room.ensures.timed c.make_room.ensures.doubted c.self.invariant.orders)
    (had _ _ _ c.in-Ok.ensures.old c.unwrap_or.ensures) in
    tied_after es c.insert.new.self.entries c.args.id _ c.enter.new.orders c.self.invariant.small (omega (arith, c.ranges.id.fits)) c.in-Ok.ensures.entries c.in-Ok.ensures.updates.0
    (c.enter.ensures.orders (placed c.args.id Still (stage_at es)) was (here_now c.args.id (stage_at es))) c.enter.ensures.room
