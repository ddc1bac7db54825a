use Rattle.std.proofs.Common.{refl, []}
use Rattle.rinda_rules.specs.declared.plain.Notifier.{Notifier}
use Rattle.rinda_notify.specs.declared.note.Note.{Note}
use Rattle.rinda_notify.specs.Notes.{note_of}
use Rattle.rinda_notify.proofs.Told.{row_seen, without_seen}
use Rattle.rinda_notify.proofs.Ended.{pop_is}
use Rattle.rinda_notify.proofs.laws.pop_is_closed.Goals as goal

pub returns : goal.returns
returns c s id n last until there none ended = (
  pop_is s.events n _ [] _ (row_seen (λ (n : Notifier). n.id) (λ (n : Note). n.id) (note_of s.events) id s.notifiers n (λ n. refl) there) ended none,
  without_seen (λ (n : Notifier). n.id) (λ (n : Note). n.id) (note_of s.events) id s.notifiers (λ n. refl),
)
