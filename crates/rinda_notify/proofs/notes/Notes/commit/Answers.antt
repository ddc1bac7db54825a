use Rattle.std.proofs.Common.{ap, ◌∙◌}
use Rattle.rinda_notify.proofs.Gone.{view-settled}
use Rattle.rinda_notify.proofs.notes.Notes.commit.Goals as goal

pub returns : goal.returns
returns c = rw (c.clear.ensures.items, c.sweep.ensures.gone) (view-settled c.sweep.new.rows _ (c.sweep.ensures.rows ∙ ap (λ t. t.ahead) c.self.view_is))
