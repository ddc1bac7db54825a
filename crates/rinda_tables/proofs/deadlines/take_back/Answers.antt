use Rattle.std.proofs.Common.{◌∙◌}
use Rattle.rinda_tables.proofs.Stages.{taken-back, there-back}
use Rattle.rinda_tables.proofs.deadlines.take_back.Goals as goal

pub loop-step-preserved : goal.loop-step-preserved
loop-step-preserved c =
    let i = rw c.in-Some.ensures.items at c.loop-step.invariant in
    let b = there-back c.pop.new.self.items c.in-Some.step c.loop-step.leases c.stand.new.self c.stand.ensures i.1 i.2 in
    (λ q. taken-back c.pop.new.self.items c.in-Some.step c.loop-step.leases c.stand.new.self q c.stand.ensures ∙ i.0 q, b.0, b.1)
