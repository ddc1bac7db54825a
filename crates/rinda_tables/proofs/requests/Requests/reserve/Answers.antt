use Rattle.std.proofs.Common.{ap, ◌∙◌}
use Rattle.rinda_tables.proofs.Asked.{below-all, left-new, requested-added, undone-added}
use Rattle.rinda_tables.proofs.requests.Requests.reserve.Goals as goal

pub reserve-requires-2 : goal.reserve-requires-2
reserve-requires-2 c = below-all c.args.row.id c.self.inside.steps.items c.self.inside.waits c.args.self.now.list (ap (λ t. t.list) c.self.view_is) (ap (λ t. t.added) c.self.view_is ∙ c.requires.once) c.requires.above

pub invariant_of-self-2 : goal.invariant_of-self-2
invariant_of-self-2 c = rw (c.in_ok-reserve-2.ensures.added, c.push_reserved.ensures.items, c.reserve.ensures.items) (requested-added _ c.self.inside.steps.items c.self.inside.gone.items c.self.inside.waits c.args.row (below-all c.args.row.id c.self.inside.steps.items c.self.inside.waits c.args.self.now.list (ap (λ t. t.list) c.self.view_is) (ap (λ t. t.added) c.self.view_is ∙ c.requires.once) c.requires.above) c.self.invariant)

pub returns-clause-ahead : goal.returns-clause-ahead
returns-clause-ahead c = rw (← c.self.view_is, c.in_ok-reserve-2.ensures.added) (left-new c.self.inside.gone.items c.self.inside.waits c.args.row (below-all c.args.row.id c.self.inside.steps.items c.self.inside.waits c.args.self.now.list (ap (λ t. t.list) c.self.view_is) (ap (λ t. t.added) c.self.view_is ∙ c.requires.once) c.requires.above) c.self.invariant.there)

pub returns-clause-list : goal.returns-clause-list
returns-clause-list c = rw (← c.self.view_is, c.push_reserved.ensures.items, c.reserve.ensures.items, c.in_ok-reserve-2.ensures.added) (undone-added c.self.inside.steps.items c.self.inside.waits c.args.row (below-all c.args.row.id c.self.inside.steps.items c.self.inside.waits c.args.self.now.list (ap (λ t. t.list) c.self.view_is) (ap (λ t. t.added) c.self.view_is ∙ c.requires.once) c.requires.above))
