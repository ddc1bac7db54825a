use Rattle.std.proofs.Common.{◌∙◌, ap, sym, ℕ, List, length}
use Rattle.std.specs.Prelude.{◌==◌}
use Rattle.rinda_notify.proofs.Gone.{left-nobody}
use Rattle.rinda_notify.proofs.notes.Notes.len.Goals as goal

pub returns-then-is_empty : goal.returns-then-is_empty
returns-then-is_empty c = rw (← c.self.view_is) (c.len.ensures ∙ left-nobody c.self.inside.gone.items c.self.inside.rows (ap (λ (g : List ℕ). length g == 0) (sym c.as_slice.ensures.value) ∙ sym c.is_empty.ensures ∙ c.if-is_empty.true))
