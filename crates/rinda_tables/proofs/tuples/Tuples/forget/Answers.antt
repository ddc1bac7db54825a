use Rattle.std.proofs.Common.{ap, ◌∙◌}
use Rattle.rinda_tables.proofs.Backs.{tupled-settled, view-settled, rising-undone}
use Rattle.rinda_tables.proofs.tuples.Tuples.forget.Goals as goal

pub invariant_of-self : goal.invariant_of-self
invariant_of-self c = rw (c.take_back.ensures.steps, c.clear.ensures.items, c.take_back.ensures.bag) (tupled-settled _ _ c.self.invariant.counted (rising-undone c.self.inside.steps.items c.self.inside.bag c.self.invariant.rise))

pub returns : goal.returns
returns c = rw (c.take_back.ensures.steps, c.clear.ensures.items) (view-settled c.take_back.new.bag _ (c.take_back.ensures.bag ∙ ap (λ t. t.list) c.self.view_is))
