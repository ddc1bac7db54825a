use Rattle.rinda_wait.specs.Waiting.{canceled}
use Rattle.std.proofs.Common.{ap, refl}
use Rattle.rinda_tables.proofs.Gone.{left-changed}
use Rattle.rinda_tables.proofs.Asked.{backs-mark, keeps-changed, requested-changed}
use Rattle.rinda_tables.proofs.requests.Requests.mark.Goals as goal

pub invariant_of-self-2 : goal.invariant_of-self-2
invariant_of-self-2 c = rw (c.mark.ensures, c.push_reserved.ensures.items, c.reserve.ensures.items, c.is_marked-before.ensures) (requested-changed _ c.args.id canceled _ _ c.self.inside.steps.items c.self.inside.gone.items c.self.inside.waits (backs-mark c.args.id c.self.inside.waits) (λ r. refl) c.self.invariant)

pub returns-clause-ahead : goal.returns-clause-ahead
returns-clause-ahead c = rw (← c.self.view_is, c.mark.ensures) (left-changed (λ r. r.id) c.self.inside.gone.items c.args.id canceled c.self.inside.waits (λ r. refl))

pub returns-clause-same : goal.returns-clause-same
returns-clause-same c = rw (c.mark.ensures, c.push_reserved.ensures.items, c.reserve.ensures.items, c.is_marked-before.ensures) (keeps-changed _ c.args.id canceled _ c.self.inside.steps.items c.self.inside.waits _ (backs-mark c.args.id c.self.inside.waits) c.self.invariant.rise c.args.self.now (ap (λ t. t.list) c.self.view_is) (ap (λ t. t.added) c.self.view_is))
