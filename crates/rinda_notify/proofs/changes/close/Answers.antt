use Rattle.rinda_notify.specs.Notes.{closed}
use Rattle.rinda_notify.proofs.Undone.{changes-close, undone-changed}
use Rattle.rinda_notify.proofs.changes.close.Goals as goal

pub returns-clause-back : goal.returns-clause-back
returns-clause-back c = rw (c.close.ensures, c.in_ok-keep_standing.ensures.steps) (undone-changed c.args.id (closed c.args.last) c.args.steps.now.items c.args.rows.now (changes-close c.args.last) c.keep_standing.ensures.rising)
