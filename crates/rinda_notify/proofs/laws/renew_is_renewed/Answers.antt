use Rattle.std.proofs.Common.{refl}
use Rattle.rinda_rules.specs.Cases.{renewed_notifier}
use Rattle.rinda_notify.specs.Notes.{renewed}
use Rattle.rinda_rules.specs.declared.plain.Notifier.{Notifier}
use Rattle.rinda_notify.specs.declared.note.Note.{Note}
use Rattle.rinda_notify.specs.Notes.{note_of}
use Rattle.rinda_notify.proofs.Told.{renew_is_renewed, changed_seen}
use Rattle.rinda_notify.proofs.laws.renew_is_renewed.Goals as goal

pub returns : goal.returns
returns c s id deadline renewer = changed_seen (λ (n : Notifier). n.id) (λ (n : Note). n.id) (note_of s.events) id (renewed_notifier deadline renewer) (renewed deadline renewer) s.notifiers (λ n. refl) (renew_is_renewed s.events deadline renewer)
