use Rattle.std.proofs.Common.{ap, ◌∙◌}
use Rattle.rinda_rules.proofs.Lists.{rising-filter}
use Rattle.rinda_tables.proofs.Backs.{tupled-settled, view-settled}
use Rattle.rinda_tables.proofs.tuples.Tuples.commit.Goals as goal

pub invariant_of-self : goal.invariant_of-self
invariant_of-self c = rw (c.clear.ensures.items, c.sweep.ensures.gone, c.sweep.ensures.bag) (tupled-settled _ _ (rw c.sweep.ensures.bag at c.len-self-inside.ensures) (rising-filter (λ t. t.id) _ c.self.inside.bag c.self.invariant.rise))

pub returns : goal.returns
returns c = rw (c.clear.ensures.items, c.sweep.ensures.gone) (view-settled c.sweep.new.bag _ (c.sweep.ensures.bag ∙ ap (λ t. t.ahead) c.self.view_is))
