use Rattle.std.proofs.Common.{◌<◌, length, arith}
use Rattle.rinda_lease.proofs.Dues.{front_waits, front_is_asked, no_front_asked}
use Rattle.rinda_lease.proofs.leases.Leases.next_ask.Goals as goal

pub returns-in-Some : goal.returns-in-Some
returns-in-Some c =
    let keys = c.self.inside.orders.doubted.items in
    let there : 0 < length keys = grind (arith, c.in-Some.ensures.variant) in
    rw (← c.self.view_is) (front_waits c.in-Some.key.now c.self.inside.stages.entries keys c.self.invariant.small c.self.invariant.orders.doubted there c.in-Some.ensures.lookup c.if-key-lt-IDS.true)

pub returns-in_default : goal.returns-in_default
returns-in_default c =
    let keys = c.self.inside.orders.doubted.items in
    let there : 0 < length keys = grind (arith, c.in-Some.ensures.variant) in
    rw (← c.self.view_is) (front_is_asked c.in-Some.key.now c.self.inside.stages.entries keys c.self.invariant.small c.self.invariant.orders.doubted there c.in-Some.ensures.lookup c.if-key-lt-IDS.false)

pub returns-in_default-2 : goal.returns-in_default-2
returns-in_default-2 c =
    let keys = c.self.inside.orders.doubted.items in
    let none : 0 < length keys → ⊥ = λ l. grind (arith, c.front.ensures.variant, c.in_default.is, l) in
    rw (← c.self.view_is) (no_front_asked c.self.inside.stages.entries keys c.self.invariant.small c.self.invariant.orders.doubted none)
