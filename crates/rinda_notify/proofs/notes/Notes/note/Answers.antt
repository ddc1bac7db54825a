use Rattle.std.proofs.Common.{◌∙◌, sym}
use Rattle.rinda_notify.proofs.Gone.{row-gone, row-left}
use Rattle.rinda_notify.proofs.notes.Notes.note.Goals as goal

pub returns-then-is_gone : goal.returns-then-is_gone
returns-then-is_gone c = rw (← c.self.view_is) (row-gone c.self.inside.gone.items c.args.id c.self.inside.rows (sym c.is_gone.ensures ∙ c.if-is_gone.true))

pub returns : goal.returns
returns c = rw (← c.self.view_is) (c.get.ensures.row ∙ row-left c.self.inside.gone.items c.args.id c.self.inside.rows (sym c.is_gone.ensures ∙ c.if-is_gone.false))
