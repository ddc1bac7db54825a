use Rattle.rinda_notify.specs.Notes.{asked}
use Rattle.rinda_notify.proofs.Gone.{left-changed, there-still}
use Rattle.rinda_notify.proofs.Undone.{changes-ask, undone-changed}
use Rattle.rinda_notify.proofs.notes.Notes.ask.Goals as goal

pub invariant_of-self-2 : goal.invariant_of-self-2
invariant_of-self-2 c = rw (c.ask.ensures, c.in_ok-keep_standing.ensures.steps) (there-still c.self.inside.gone.items _ _ (undone-changed c.args.id (asked) c.self.inside.steps.items c.self.inside.rows (changes-ask) c.keep_standing.ensures.rising) c.self.invariant)

pub returns-clause-ahead : goal.returns-clause-ahead
returns-clause-ahead c = rw (← c.self.view_is, c.ask.ensures) (left-changed c.self.inside.gone.items c.args.id (asked) c.self.inside.rows ((changes-ask).id))

pub returns-clause-list : goal.returns-clause-list
returns-clause-list c = rw (← c.self.view_is, c.ask.ensures, c.in_ok-keep_standing.ensures.steps) (undone-changed c.args.id (asked) c.self.inside.steps.items c.self.inside.rows (changes-ask) c.keep_standing.ensures.rising)
