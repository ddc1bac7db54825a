use Rattle.std.proofs.Common.{◌<◌, length, arith}
use Rattle.rinda_lease.proofs.Dues.{front_due, front_not_due, no_front_due}
use Rattle.rinda_lease.proofs.leases.Leases.is_due.Goals as goal

pub returns-in-Some-clause-some : goal.returns-in-Some-clause-some
returns-in-Some-clause-some c =
    let keys = c.self.inside.orders.timed.items in
    let there : 0 < length keys = grind (arith, c.in-Some.ensures.variant) in
    rw (← c.self.view_is) (front_due c.args.now c.in-Some.key.now c.self.inside.stages.entries keys c.self.invariant.orders.timed there c.in-Some.ensures.lookup)

pub returns-in-Some-clause-none : goal.returns-in-Some-clause-none
returns-in-Some-clause-none c =
    let keys = c.self.inside.orders.timed.items in
    let there : 0 < length keys = grind (arith, c.in-Some.ensures.variant) in
    rw (← c.self.view_is) (front_not_due c.args.now c.in-Some.key.now c.self.inside.stages.entries keys c.self.invariant.small c.self.invariant.orders.timed there c.in-Some.ensures.lookup)

pub returns-in-None-clause-none : goal.returns-in-None-clause-none
returns-in-None-clause-none c =
    let keys = c.self.inside.orders.timed.items in
    let none : 0 < length keys → ⊥ = λ l. grind (arith, c.in-None.ensures.variant, l) in
    rw (← c.self.view_is) (no_front_due c.args.now c.self.inside.stages.entries keys c.self.invariant.small c.self.invariant.orders.timed none)
