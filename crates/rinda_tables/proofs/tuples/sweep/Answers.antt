use Rattle.std.proofs.Common.{◌≡◌, [], arith, sym, ◌∙◌}
use Rattle.rinda_tables.proofs.Gone.{left-last, left-none}
use Rattle.rinda_tables.proofs.tuples.sweep.Goals as goal

pub loop-id-preserved : goal.loop-id-preserved
loop-id-preserved c = rw c.take_one.ensures (sym (left-last (λ t. t.id) c.pop.new.self.items c.in-Some.id c.loop-id.bag) ∙ (rw c.in-Some.ensures.items at c.loop-id.invariant))

pub returns-clause-bag : goal.returns-clause-bag
returns-clause-bag c =
    let e : c.loop-id.gone.items ≡ [] = grind (arith, c.in_default.is, c.pop.ensures) in
    sym (left-none (λ t. t.id) c.loop-id.bag) ∙ (rw e at c.loop-id.invariant)
