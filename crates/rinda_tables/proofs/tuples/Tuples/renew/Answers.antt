use Rattle.rinda_rules.specs.Cases.{renewed_tuple}
use Rattle.std.proofs.Common.{ap}
use Rattle.rinda_tables.proofs.Gone.{left-changed}
use Rattle.rinda_tables.proofs.Backs.{changes-renew, keeps-changed, tupled-changed}
use Rattle.rinda_tables.proofs.tuples.Tuples.renew.Goals as goal

pub invariant_of-self : goal.invariant_of-self
invariant_of-self c = rw (c.renew.ensures, c.in-Ok.ensures.noted) (tupled-changed c.args.id (renewed_tuple c.args.deadline c.args.renewer) c.self.inside.steps.items _ c.self.inside.gone.items c.self.inside.bag (changes-renew c.args.deadline c.args.renewer) c.self.invariant)

pub returns-in-Ok-clause-ahead : goal.returns-in-Ok-clause-ahead
returns-in-Ok-clause-ahead c = rw (← c.self.view_is, c.renew.ensures) (left-changed (λ t. t.id) c.self.inside.gone.items c.args.id (renewed_tuple c.args.deadline c.args.renewer) c.self.inside.bag (changes-renew c.args.deadline c.args.renewer).id)

pub returns-in-Ok-clause-same : goal.returns-in-Ok-clause-same
returns-in-Ok-clause-same c = rw (c.renew.ensures, c.in-Ok.ensures.noted) (keeps-changed c.args.id (renewed_tuple c.args.deadline c.args.renewer) c.self.inside.steps.items c.self.inside.bag _ (changes-renew c.args.deadline c.args.renewer) c.self.invariant.rise c.args.self.now (ap (λ t. t.list) c.self.view_is) (ap (λ t. t.added) c.self.view_is))
