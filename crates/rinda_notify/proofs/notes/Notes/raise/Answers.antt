use Rattle.rinda_notify.specs.Notes.{told}
use Rattle.rinda_notify.proofs.Gone.{told-id, left-map, there-still}
use Rattle.rinda_notify.proofs.Undone.{undone-more}
use Rattle.rinda_notify.proofs.notes.Notes.raise.Goals as goal

pub invariant_of-self-2 : goal.invariant_of-self-2
invariant_of-self-2 c = rw (c.in_ok-add_steps.ensures.rows, c.in_ok-add_steps.ensures.steps) (there-still c.self.inside.gone.items _ _ (undone-more c.self.inside.steps.items c.in_ok-steps.steps.items c.raise.new.rows c.self.inside.rows c.in_ok-steps.ensures.steps) c.self.invariant)

pub returns-clause-ahead : goal.returns-clause-ahead
returns-clause-ahead c = rw (← c.self.view_is, c.in_ok-add_steps.ensures.rows, c.in_ok-steps.ensures.told) (left-map c.self.inside.gone.items (told c.args.what c.args.tuple.now) c.self.inside.rows (told-id c.args.what c.args.tuple.now))

pub returns-clause-list : goal.returns-clause-list
returns-clause-list c = rw (← c.self.view_is, c.in_ok-add_steps.ensures.rows, c.in_ok-add_steps.ensures.steps) (undone-more c.self.inside.steps.items c.in_ok-steps.steps.items c.raise.new.rows c.self.inside.rows c.in_ok-steps.ensures.steps)
