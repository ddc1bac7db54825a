use Rattle.std.proofs.Common.{ap, ◌∙◌}
use Rattle.rinda_tables.proofs.Asked.{requested-settled, view-settled, rising-undone}
use Rattle.rinda_tables.proofs.requests.Requests.forget.Goals as goal

pub invariant_of-self : goal.invariant_of-self
invariant_of-self c = rw (c.take_back.ensures.steps, c.clear.ensures.items, c.take_back.ensures.waits) (requested-settled _ _ c.self.invariant.counted (rising-undone c.self.inside.steps.items c.self.inside.waits c.self.invariant.rise))

pub returns : goal.returns
returns c = rw (c.take_back.ensures.steps, c.clear.ensures.items) (view-settled c.take_back.new.waits _ (c.take_back.ensures.waits ∙ ap (λ t. t.list) c.self.view_is))
