use Rattle.std.proofs.Common.{refl, length}
use Rattle.rinda_rules.specs.Phases.{close_after}
use Rattle.rinda_notify.specs.Notes.{closed}
use Rattle.rinda_rules.specs.declared.plain.Notifier.{Notifier}
use Rattle.rinda_notify.specs.declared.note.Note.{Note}
use Rattle.rinda_notify.specs.Notes.{note_of}
use Rattle.rinda_notify.proofs.Told.{one_seen, close_is_closed}
use Rattle.rinda_notify.proofs.laws.close_is_closed.Goals as goal

pub returns : goal.returns
returns c s id n last up there runs = one_seen (λ (n : Notifier). n.id) (λ (n : Note). n.id) (note_of s.events) id (close_after last (length s.events)) (closed last) s.notifiers n (λ n. refl) up there (close_is_closed s.events last n runs)
