use Rattle.rinda_notify.specs.Notes.{answered}
use Rattle.rinda_notify.proofs.Gone.{left-changed, there-still}
use Rattle.rinda_notify.proofs.Undone.{changes-answer, undone-changed}
use Rattle.rinda_notify.proofs.notes.Notes.answer.Goals as goal

pub invariant_of-self-2 : goal.invariant_of-self-2
invariant_of-self-2 c = rw (c.answer.ensures, c.in_ok-keep_standing.ensures.steps) (there-still c.self.inside.gone.items _ _ (undone-changed c.args.id (answered c.args.deadline c.args.now) c.self.inside.steps.items c.self.inside.rows (changes-answer c.args.deadline c.args.now) c.keep_standing.ensures.rising) c.self.invariant)

pub returns-clause-ahead : goal.returns-clause-ahead
returns-clause-ahead c = rw (← c.self.view_is, c.answer.ensures) (left-changed c.self.inside.gone.items c.args.id (answered c.args.deadline c.args.now) c.self.inside.rows ((changes-answer c.args.deadline c.args.now).id))

pub returns-clause-list : goal.returns-clause-list
returns-clause-list c = rw (← c.self.view_is, c.answer.ensures, c.in_ok-keep_standing.ensures.steps) (undone-changed c.args.id (answered c.args.deadline c.args.now) c.self.inside.steps.items c.self.inside.rows (changes-answer c.args.deadline c.args.now) c.keep_standing.ensures.rising)
