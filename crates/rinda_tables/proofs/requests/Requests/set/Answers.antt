use Rattle.rinda_rules.specs.Phases.{in_state}
use Rattle.std.proofs.Common.{ap, refl, sym, ◌∙◌}
use Rattle.rinda_tables.proofs.Gone.{left-changed, changed-gone}
use Rattle.rinda_tables.proofs.Asked.{backs-set, keeps-changed, requested-set}
use Rattle.rinda_tables.proofs.requests.Requests.set.Goals as goal

pub returns-then-is_gone-clause-ahead : goal.returns-then-is_gone-clause-ahead
returns-then-is_gone-clause-ahead c = rw (← c.self.view_is) (sym (changed-gone (λ r. r.id) c.self.inside.gone.items c.args.id (in_state c.args.state) c.self.inside.waits (sym c.is_gone.ensures ∙ c.if-is_gone.true)))

pub invariant_of-self : goal.invariant_of-self
invariant_of-self c = rw (c.set-before.ensures.list, c.push_reserved.ensures.items, c.reserve.ensures.items, c.set-before.ensures.before) (requested-set _ c.args.id (in_state c.args.state) _ _ c.self.inside.steps.items c.self.inside.gone.items c.self.inside.waits (backs-set c.args.id c.args.state c.self.inside.waits) (sym c.is_gone.ensures ∙ c.if-is_gone.false) c.self.invariant)

pub returns-in-Ok-clause-ahead : goal.returns-in-Ok-clause-ahead
returns-in-Ok-clause-ahead c = rw (← c.self.view_is, c.set-before.ensures.list) (left-changed (λ r. r.id) c.self.inside.gone.items c.args.id (in_state c.args.state) c.self.inside.waits (λ r. refl))

pub returns-in-Ok-clause-same : goal.returns-in-Ok-clause-same
returns-in-Ok-clause-same c = rw (c.set-before.ensures.list, c.push_reserved.ensures.items, c.reserve.ensures.items, c.set-before.ensures.before) (keeps-changed _ c.args.id (in_state c.args.state) _ c.self.inside.steps.items c.self.inside.waits _ (backs-set c.args.id c.args.state c.self.inside.waits) c.self.invariant.rise c.args.self.now (ap (λ t. t.list) c.self.view_is) (ap (λ t. t.added) c.self.view_is))
