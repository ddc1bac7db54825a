use Rattle.std.proofs.Common.{◌≡◌, ◌∙◌, false, ap, sym, arith}
use Rattle.rinda_lease.specs.declared.stage.Stage.TheVariants.{Still}
use Rattle.rinda_lease.specs.Stages.{stage_at}
use Rattle.rinda_lease.specs.Orders.{AreOrders, placed, is_still}
use Rattle.rinda_lease.proofs.Ties.{rising_orders, had, here_now, tied_after}
use Rattle.rinda_lease.proofs.leases.Leases.stand.Goals as goal

pub enter-requires-clause-rise : goal.enter-requires-clause-rise
enter-requires-clause-rise c =
    let es = c.self.inside.stages.entries in
    rising_orders _ c.leave.new.orders (c.leave.ensures.orders (stage_at es) c.self.invariant.orders (had _ _ _ c.in-Ok.ensures.old c.unwrap_or.ensures))

pub enter-requires-clause-room : goal.enter-requires-clause-room
enter-requires-clause-room c =
    let es = c.self.inside.stages.entries in
    let was : stage_at es c.args.id ≡ c.unwrap_or.result = had _ _ _ c.in-Ok.ensures.old c.unwrap_or.ensures in
    let there : is_still (stage_at es c.args.id) ≡ false = rw (← c.self.view_is) at c.requires in
    c.leave.ensures.freed (stage_at es) c.self.invariant.orders was (ap is_still (sym was) ∙ there) c.self.invariant.room

pub invariant_of-self : goal.invariant_of-self
invariant_of-self c =
    let es = c.self.inside.stages.entries in
    let was : AreOrders (placed c.args.id Still (stage_at es)) c.leave.new.orders = c.leave.ensures.orders (stage_at es) c.self.invariant.orders (had _ _ _ c.in-Ok.ensures.old c.unwrap_or.ensures) in
    tied_after es c.insert.new.self.entries c.args.id _ c.enter.new.orders c.self.invariant.small (omega (arith, c.ranges.id.fits)) c.in-Ok.ensures.entries c.in-Ok.ensures.updates.0
    (c.enter.ensures.orders (placed c.args.id Still (stage_at es)) was (here_now c.args.id (stage_at es))) c.enter.ensures.room
