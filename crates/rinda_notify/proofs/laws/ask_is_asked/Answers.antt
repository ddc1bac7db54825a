use Rattle.std.proofs.Common.{refl}
use Rattle.rinda_rules.specs.Cases.{asked_doubt}
use Rattle.rinda_notify.specs.Notes.{asked}
use Rattle.rinda_rules.specs.declared.plain.Notifier.{Notifier}
use Rattle.rinda_notify.specs.declared.note.Note.{Note}
use Rattle.rinda_notify.specs.Notes.{note_of}
use Rattle.rinda_notify.proofs.Told.{ask_is_asked, changed_seen}
use Rattle.rinda_notify.proofs.laws.ask_is_asked.Goals as goal

pub returns : goal.returns
returns c s id = changed_seen (λ (n : Notifier). n.id) (λ (n : Note). n.id) (note_of s.events) id (λ n. record n { doubt = asked_doubt n.doubt }) asked s.notifiers (λ n. refl) (ask_is_asked s.events)
