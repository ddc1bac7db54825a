use Rattle.rinda_rules.specs.Phases.{held_by}
use Rattle.std.proofs.Common.{ap}
use Rattle.rinda_tables.proofs.Gone.{left-changed}
use Rattle.rinda_tables.proofs.Backs.{changes-hold, keeps-changed, tupled-changed}
use Rattle.rinda_tables.proofs.tuples.Tuples.hold.Goals as goal

pub invariant_of-self-2 : goal.invariant_of-self-2
invariant_of-self-2 c = rw (c.hold.ensures, c.in_ok-note.ensures.noted) (tupled-changed c.args.id (held_by c.args.request) c.self.inside.steps.items _ c.self.inside.gone.items c.self.inside.bag (changes-hold c.args.request) c.self.invariant)

pub returns-clause-ahead : goal.returns-clause-ahead
returns-clause-ahead c = rw (← c.self.view_is, c.hold.ensures) (left-changed (λ t. t.id) c.self.inside.gone.items c.args.id (held_by c.args.request) c.self.inside.bag (changes-hold c.args.request).id)

pub returns-clause-same : goal.returns-clause-same
returns-clause-same c = rw (c.hold.ensures, c.in_ok-note.ensures.noted) (keeps-changed c.args.id (held_by c.args.request) c.self.inside.steps.items c.self.inside.bag _ (changes-hold c.args.request) c.self.invariant.rise c.args.self.now (ap (λ t. t.list) c.self.view_is) (ap (λ t. t.added) c.self.view_is))
