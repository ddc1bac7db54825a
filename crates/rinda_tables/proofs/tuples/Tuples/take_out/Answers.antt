use Rattle.std.proofs.Common.{ap, sym, ◌∙◌}
use Rattle.std.specs.Prelude.{option_copied}
use Rattle.rinda_bag.specs.Changes.{marked}
use Rattle.rinda_tables.proofs.Gone.{left-more, without-absent, absent-left}
use Rattle.rinda_tables.proofs.Backs.{any_there, changes-mark, keeps-changed, tupled-taken}
use Rattle.rinda_tables.proofs.tuples.Tuples.take_out.Goals as goal

pub invariant_of-self-2 : goal.invariant_of-self-2
invariant_of-self-2 c = rw (c.mark.ensures, c.push_reserved.ensures.items, c.reserve.ensures.items, c.in_ok-note.ensures.noted) (tupled-taken c.args.id c.self.inside.steps.items _ c.self.inside.gone.items c.self.inside.bag (any_there c.args.id c.self.inside.bag _ (sym c.row.ensures ∙ ap option_copied c.in-Some.is)) c.self.invariant)

pub returns-clause-ahead : goal.returns-clause-ahead
returns-clause-ahead c = rw (← c.self.view_is, c.mark.ensures, c.push_reserved.ensures.items, c.reserve.ensures.items) (left-more (λ t. t.id) c.self.inside.gone.items c.args.id marked c.self.inside.bag (changes-mark).id)

pub returns-clause-same : goal.returns-clause-same
returns-clause-same c = rw (c.mark.ensures, c.in_ok-note.ensures.noted) (keeps-changed c.args.id marked c.self.inside.steps.items c.self.inside.bag _ changes-mark c.self.invariant.rise c.args.self.now (ap (λ t. t.list) c.self.view_is) (ap (λ t. t.added) c.self.view_is))

pub returns-in_default-clause-ahead : goal.returns-in_default-clause-ahead
returns-in_default-clause-ahead c = rw (← c.self.view_is) (sym (without-absent (λ t. t.id) c.args.id _ (absent-left (λ t. t.id) c.self.inside.gone.items c.args.id c.self.inside.bag (sym c.row.ensures ∙ ap option_copied c.in_default.is))))
