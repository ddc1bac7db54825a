use Rattle.rinda_notify.specs.Notes.{renewed}
use Rattle.rinda_notify.proofs.Gone.{left-changed, there-still}
use Rattle.rinda_notify.proofs.Undone.{changes-renew, undone-changed}
use Rattle.rinda_notify.proofs.notes.Notes.renew.Goals as goal

pub invariant_of-self : goal.invariant_of-self
invariant_of-self c = rw (c.renew.ensures, c.in-Ok.ensures.steps) (there-still c.self.inside.gone.items _ _ (undone-changed c.args.id (renewed c.args.deadline c.args.renewer) c.self.inside.steps.items c.self.inside.rows (changes-renew c.args.deadline c.args.renewer) c.keep_standing.ensures.rising) c.self.invariant)

pub returns-in-Ok-clause-ahead : goal.returns-in-Ok-clause-ahead
returns-in-Ok-clause-ahead c = rw (← c.self.view_is, c.renew.ensures) (left-changed c.self.inside.gone.items c.args.id (renewed c.args.deadline c.args.renewer) c.self.inside.rows ((changes-renew c.args.deadline c.args.renewer).id))

pub returns-in-Ok-clause-list : goal.returns-in-Ok-clause-list
returns-in-Ok-clause-list c = rw (← c.self.view_is, c.renew.ensures, c.in-Ok.ensures.steps) (undone-changed c.args.id (renewed c.args.deadline c.args.renewer) c.self.inside.steps.items c.self.inside.rows (changes-renew c.args.deadline c.args.renewer) c.keep_standing.ensures.rising)
