use Rattle.rinda_notify.specs.Notes.{closed}
use Rattle.rinda_notify.proofs.Gone.{left-changed}
use Rattle.rinda_notify.proofs.Undone.{changes-close}
use Rattle.rinda_notify.proofs.notes.Notes.close.Goals as goal

pub returns-clause-ahead : goal.returns-clause-ahead
returns-clause-ahead c = rw (← c.self.view_is, c.in_ok-close.ensures.rows) (left-changed c.self.inside.gone.items c.args.id (closed c.args.last) c.self.inside.rows ((changes-close c.args.last).id))
