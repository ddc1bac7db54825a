use Rattle.std.proofs.Common.{ap, ◌∙◌}
use Rattle.rinda_notify.proofs.Gone.{view-settled}
use Rattle.rinda_notify.proofs.notes.Notes.forget.Goals as goal

pub returns : goal.returns
returns c = rw (c.undo_all.ensures.steps, c.clear.ensures.items) (view-settled c.undo_all.new.rows _ (c.undo_all.ensures.rows ∙ ap (λ t. t.list) c.self.view_is))
