use Rattle.rinda_rules.specs.Phases.{doubt_request}
use Rattle.std.proofs.Common.{ap, refl}
use Rattle.rinda_tables.proofs.Gone.{left-changed}
use Rattle.rinda_tables.proofs.Asked.{backs-doubt, keeps-changed, requested-changed}
use Rattle.rinda_tables.proofs.requests.Requests.doubt.Goals as goal

pub invariant_of-self-2 : goal.invariant_of-self-2
invariant_of-self-2 c = rw (c.doubt.ensures, c.push_reserved.ensures.items, c.reserve.ensures.items, c.doubt_in-before.ensures) (requested-changed _ c.args.id doubt_request _ _ c.self.inside.steps.items c.self.inside.gone.items c.self.inside.waits (backs-doubt c.args.id c.self.inside.waits) (λ r. refl) c.self.invariant)

pub returns-clause-ahead : goal.returns-clause-ahead
returns-clause-ahead c = rw (← c.self.view_is, c.doubt.ensures) (left-changed (λ r. r.id) c.self.inside.gone.items c.args.id doubt_request c.self.inside.waits (λ r. refl))

pub returns-clause-same : goal.returns-clause-same
returns-clause-same c = rw (c.doubt.ensures, c.push_reserved.ensures.items, c.reserve.ensures.items, c.doubt_in-before.ensures) (keeps-changed _ c.args.id doubt_request _ c.self.inside.steps.items c.self.inside.waits _ (backs-doubt c.args.id c.self.inside.waits) c.self.invariant.rise c.args.self.now (ap (λ t. t.list) c.self.view_is) (ap (λ t. t.added) c.self.view_is))
