use Rattle.std.proofs.Common.{ap, ◌∙◌}
use Rattle.rinda_rules.proofs.Lists.{rising-filter}
use Rattle.rinda_tables.proofs.Asked.{requested-settled, view-settled}
use Rattle.rinda_tables.proofs.requests.Requests.commit.Goals as goal

pub invariant_of-self : goal.invariant_of-self
invariant_of-self c = rw (c.clear.ensures.items, c.sweep.ensures.gone, c.sweep.ensures.waits) (requested-settled _ _ (rw c.sweep.ensures.waits at c.len-self-inside.ensures) (rising-filter (λ r. r.id) _ c.self.inside.waits c.self.invariant.rise))

pub returns : goal.returns
returns c = rw (c.clear.ensures.items, c.sweep.ensures.gone) (view-settled c.sweep.new.waits _ (c.sweep.ensures.waits ∙ ap (λ t. t.ahead) c.self.view_is))
