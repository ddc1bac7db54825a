use Rattle.std.proofs.Common.{◌≡◌, [], arith, sym, ◌∙◌}
use Rattle.rinda_notify.proofs.Gone.{left-last, left-none}
use Rattle.rinda_notify.proofs.changes.sweep.Goals as goal

pub loop-id-preserved : goal.loop-id-preserved
loop-id-preserved c = rw c.take_out.ensures (sym (left-last c.pop.new.self.items c.in-Some.id c.loop-id.rows) ∙ (rw c.in-Some.ensures.items at c.loop-id.invariant))

pub returns-clause-rows : goal.returns-clause-rows
returns-clause-rows c =
    let e : c.loop-id.gone.items ≡ [] = grind (arith, c.in_default.is, c.pop.ensures) in
    sym (left-none c.loop-id.rows) ∙ (rw e at c.loop-id.invariant)
