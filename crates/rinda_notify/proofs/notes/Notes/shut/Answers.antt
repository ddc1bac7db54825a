use Rattle.rinda_rules.specs.declared.object.Last.TheVariants as last
use Rattle.rinda_notify.specs.Notes.{shut_note}
use Rattle.rinda_notify.proofs.Gone.{shut-id, left-map, there-still}
use Rattle.rinda_notify.proofs.Undone.{undone-more}
use Rattle.rinda_notify.proofs.notes.Notes.shut.Goals as goal

pub invariant_of-self-2 : goal.invariant_of-self-2
invariant_of-self-2 c = rw (c.in_ok-add_steps.ensures.rows, c.in_ok-add_steps.ensures.steps) (there-still c.self.inside.gone.items _ _ (undone-more c.self.inside.steps.items c.in_ok-steps.steps.items c.shut.new.rows c.self.inside.rows c.in_ok-steps.ensures.steps) c.self.invariant)

pub returns-clause-ahead : goal.returns-clause-ahead
returns-clause-ahead c = rw (← c.self.view_is, c.in_ok-add_steps.ensures.rows, c.in_ok-steps.ensures.shut) (left-map c.self.inside.gone.items (shut_note last.Canceled) c.self.inside.rows (shut-id last.Canceled))

pub returns-clause-list : goal.returns-clause-list
returns-clause-list c = rw (← c.self.view_is, c.in_ok-add_steps.ensures.rows, c.in_ok-add_steps.ensures.steps) (undone-more c.self.inside.steps.items c.in_ok-steps.steps.items c.shut.new.rows c.self.inside.rows c.in_ok-steps.ensures.steps)
