use Rattle.std.proofs.Common.{ap, sym}
use Rattle.rinda_lease.specs.Stages.{stage_at, or_still}
use Rattle.rinda_lease.proofs.Ties.{tied_without}
use Rattle.rinda_lease.proofs.leases.Leases.forget.Goals as goal

pub invariant_of-self : goal.invariant_of-self
invariant_of-self c =
    let es = c.self.inside.stages.entries in
    tied_without es c.remove.new.self.entries c.args.id c.leave.new.orders c.self.invariant.small c.in-Some.ensures.entries c.in-Some.ensures.updates.0
    (c.leave.ensures.orders (stage_at es) c.self.invariant.orders (ap or_still (sym c.in-Some.ensures.value))) (c.leave.ensures.room 0 c.self.invariant.room)
