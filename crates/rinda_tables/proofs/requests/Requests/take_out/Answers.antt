use Rattle.std.proofs.Common.{ap, refl, sym, ◌∙◌}
use Rattle.std.specs.Prelude.{option_copied}
use Rattle.rinda_rules.specs.Phases.{in_state}
use Rattle.rinda_rules.specs.declared.row.RequestState.TheVariants.{Reserved}
use Rattle.rinda_tables.proofs.Gone.{left-more, without-absent, absent-left}
use Rattle.rinda_tables.proofs.Asked.{any_there, backs-set, keeps-changed, requested-taken}
use Rattle.rinda_tables.proofs.requests.Requests.take_out.Goals as goal

pub invariant_of-self-2 : goal.invariant_of-self-2
invariant_of-self-2 c = rw (c.set-before.ensures.list, c.push_reserved-2.ensures.items, c.reserve.ensures.items, c.push_reserved.ensures.items, c.reserve-2.ensures.items, c.set-before.ensures.before) (requested-taken c.args.id _ c.self.inside.steps.items c.self.inside.gone.items c.self.inside.waits (any_there c.args.id c.self.inside.waits _ (sym c.row.ensures ∙ ap option_copied c.in-Some.is)) c.self.invariant)

pub returns-clause-ahead : goal.returns-clause-ahead
returns-clause-ahead c = rw (← c.self.view_is, c.set-before.ensures.list, c.push_reserved-2.ensures.items, c.reserve.ensures.items) (left-more (λ r. r.id) c.self.inside.gone.items c.args.id (in_state Reserved) c.self.inside.waits (λ r. refl))

pub returns-clause-same : goal.returns-clause-same
returns-clause-same c = rw (c.set-before.ensures.list, c.push_reserved.ensures.items, c.reserve-2.ensures.items, c.set-before.ensures.before) (keeps-changed _ c.args.id (in_state Reserved) _ c.self.inside.steps.items c.self.inside.waits _ (backs-set c.args.id Reserved c.self.inside.waits) c.self.invariant.rise c.args.self.now (ap (λ t. t.list) c.self.view_is) (ap (λ t. t.added) c.self.view_is))

pub returns-in_default-clause-ahead : goal.returns-in_default-clause-ahead
returns-in_default-clause-ahead c = rw (← c.self.view_is) (sym (without-absent (λ r. r.id) c.args.id _ (absent-left (λ r. r.id) c.self.inside.gone.items c.args.id c.self.inside.waits (sym c.row.ensures ∙ ap option_copied c.in_default.is))))
