use Rattle.rinda_wait.specs.Waiting.{asked}
use Rattle.std.proofs.Common.{ap, refl}
use Rattle.rinda_tables.proofs.Gone.{left-changed}
use Rattle.rinda_tables.proofs.Asked.{backs-ask, keeps-changed, requested-changed}
use Rattle.rinda_tables.proofs.requests.Requests.ask.Goals as goal

pub invariant_of-self-2 : goal.invariant_of-self-2
invariant_of-self-2 c = rw (c.ask.ensures, c.push_reserved.ensures.items, c.reserve.ensures.items, c.doubt_in-before.ensures) (requested-changed _ c.args.id asked _ _ c.self.inside.steps.items c.self.inside.gone.items c.self.inside.waits (backs-ask c.args.id c.self.inside.waits) (λ r. refl) c.self.invariant)

pub returns-clause-ahead : goal.returns-clause-ahead
returns-clause-ahead c = rw (← c.self.view_is, c.ask.ensures) (left-changed (λ r. r.id) c.self.inside.gone.items c.args.id asked c.self.inside.waits (λ r. refl))

pub returns-clause-same : goal.returns-clause-same
returns-clause-same c = rw (c.ask.ensures, c.push_reserved.ensures.items, c.reserve.ensures.items, c.doubt_in-before.ensures) (keeps-changed _ c.args.id asked _ c.self.inside.steps.items c.self.inside.waits _ (backs-ask c.args.id c.self.inside.waits) c.self.invariant.rise c.args.self.now (ap (λ t. t.list) c.self.view_is) (ap (λ t. t.added) c.self.view_is))
