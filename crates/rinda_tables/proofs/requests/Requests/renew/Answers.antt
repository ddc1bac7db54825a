use Rattle.rinda_rules.specs.Cases.{renewed_request}
use Rattle.std.proofs.Common.{ap, refl}
use Rattle.rinda_tables.proofs.Gone.{left-changed}
use Rattle.rinda_tables.proofs.Asked.{backs-renew, keeps-changed, requested-changed}
use Rattle.rinda_tables.proofs.requests.Requests.renew.Goals as goal

pub invariant_of-self : goal.invariant_of-self
invariant_of-self c = rw (c.lease-before.ensures.list, c.push_reserved.ensures.items, c.reserve.ensures.items, c.lease-before.ensures.before, c.deadline_in-until.ensures, c.doubt_in-doubt.ensures) (requested-changed _ c.args.id (renewed_request c.args.deadline c.args.renewer) _ _ c.self.inside.steps.items c.self.inside.gone.items c.self.inside.waits (backs-renew c.args.id c.args.deadline c.args.renewer c.self.inside.waits) (λ r. refl) c.self.invariant)

pub returns-in-Ok-clause-ahead : goal.returns-in-Ok-clause-ahead
returns-in-Ok-clause-ahead c = rw (← c.self.view_is, c.lease-before.ensures.list) (left-changed (λ r. r.id) c.self.inside.gone.items c.args.id (renewed_request c.args.deadline c.args.renewer) c.self.inside.waits (λ r. refl))

pub returns-in-Ok-clause-same : goal.returns-in-Ok-clause-same
returns-in-Ok-clause-same c = rw (c.lease-before.ensures.list, c.push_reserved.ensures.items, c.reserve.ensures.items, c.lease-before.ensures.before, c.deadline_in-until.ensures, c.doubt_in-doubt.ensures) (keeps-changed _ c.args.id (renewed_request c.args.deadline c.args.renewer) _ c.self.inside.steps.items c.self.inside.waits _ (backs-renew c.args.id c.args.deadline c.args.renewer c.self.inside.waits) c.self.invariant.rise c.args.self.now (ap (λ t. t.list) c.self.view_is) (ap (λ t. t.added) c.self.view_is))
