use Rattle.std.proofs.Common.{ap, ◌∙◌}
use Rattle.rinda_tables.proofs.Backs.{below-all, left-new, tupled-added, undone-added}
use Rattle.rinda_tables.proofs.tuples.Tuples.put.Goals as goal

pub put-requires : goal.put-requires
put-requires c = (below-all c.args.row.id c.self.inside.steps.items c.self.inside.bag c.args.self.now.list (ap (λ t. t.list) c.self.view_is) (ap (λ t. t.added) c.self.view_is ∙ c.requires.once) c.requires.above)

pub invariant_of-self-2 : goal.invariant_of-self-2
invariant_of-self-2 c = rw (c.in_ok-put.ensures.ok, c.push_reserved.ensures.items, c.reserve.ensures.items) (tupled-added c.self.inside.steps.items _ c.self.inside.gone.items c.self.inside.bag c.args.row (below-all c.args.row.id c.self.inside.steps.items c.self.inside.bag c.args.self.now.list (ap (λ t. t.list) c.self.view_is) (ap (λ t. t.added) c.self.view_is ∙ c.requires.once) c.requires.above) c.self.invariant)

pub returns-clause-ahead : goal.returns-clause-ahead
returns-clause-ahead c = rw (← c.self.view_is, c.in_ok-put.ensures.ok) (left-new c.self.inside.gone.items c.self.inside.bag c.args.row (below-all c.args.row.id c.self.inside.steps.items c.self.inside.bag c.args.self.now.list (ap (λ t. t.list) c.self.view_is) (ap (λ t. t.added) c.self.view_is ∙ c.requires.once) c.requires.above) c.self.invariant.there)

pub returns-clause-list : goal.returns-clause-list
returns-clause-list c = rw (← c.self.view_is, c.push_reserved.ensures.items, c.reserve.ensures.items, c.in_ok-put.ensures.ok) (undone-added c.self.inside.steps.items c.self.inside.bag c.args.row (below-all c.args.row.id c.self.inside.steps.items c.self.inside.bag c.args.self.now.list (ap (λ t. t.list) c.self.view_is) (ap (λ t. t.added) c.self.view_is ∙ c.requires.once) c.requires.above))
