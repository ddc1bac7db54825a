use Rattle.std.proofs.Common.{◌∙◌, sym}
use Rattle.rinda_notify.proofs.Gone.{left-more, left-without, new-leaves, there-gone, there-still}
use Rattle.rinda_notify.proofs.notes.Notes.take_out.Goals as goal

pub invariant_of-self : goal.invariant_of-self
invariant_of-self c = rw c.take_out.ensures (there-still c.self.inside.gone.items _ _ (new-leaves c.args.id c.self.inside.steps.items c.self.inside.rows (sym c.is_started.ensures ∙ c.if-is_started.true)) c.self.invariant)

pub invariant_of-self-2 : goal.invariant_of-self-2
invariant_of-self-2 c = rw c.in_ok-push.ensures.items (there-gone c.self.inside.gone.items c.args.id c.self.inside.steps.items c.self.inside.rows c.self.invariant (sym c.is_started.ensures ∙ c.if-is_started.false) (rw (← c.self.view_is) at c.requires.there))

pub returns-then-is_started-clause-ahead : goal.returns-then-is_started-clause-ahead
returns-then-is_started-clause-ahead c = rw (← c.self.view_is, c.take_out.ensures) (left-without c.self.inside.gone.items c.args.id c.self.inside.rows)

pub returns-then-is_started-clause-list : goal.returns-then-is_started-clause-list
returns-then-is_started-clause-list c = rw (← c.self.view_is, c.take_out.ensures) (new-leaves c.args.id c.self.inside.steps.items c.self.inside.rows (sym c.is_started.ensures ∙ c.if-is_started.true))

pub returns-clause-ahead : goal.returns-clause-ahead
returns-clause-ahead c = rw (← c.self.view_is, c.in_ok-push.ensures.items) (left-more c.self.inside.gone.items c.args.id c.self.inside.rows)
