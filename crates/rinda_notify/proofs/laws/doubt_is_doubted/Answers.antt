use Rattle.std.proofs.Common.{refl}
use Rattle.rinda_rules.specs.Phases.{doubt_notifier}
use Rattle.rinda_notify.specs.Notes.{doubted}
use Rattle.rinda_rules.specs.declared.plain.Notifier.{Notifier}
use Rattle.rinda_notify.specs.declared.note.Note.{Note}
use Rattle.rinda_notify.specs.Notes.{note_of}
use Rattle.rinda_notify.proofs.Told.{doubt_is_doubted, changed_seen}
use Rattle.rinda_notify.proofs.laws.doubt_is_doubted.Goals as goal

pub returns : goal.returns
returns c s id = changed_seen (λ (n : Notifier). n.id) (λ (n : Note). n.id) (note_of s.events) id doubt_notifier doubted s.notifiers (λ n. refl) (doubt_is_doubted s.events)
