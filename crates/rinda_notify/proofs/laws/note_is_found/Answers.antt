use Rattle.std.proofs.Common.{refl}
use Rattle.rinda_rules.specs.declared.plain.Notifier.{Notifier}
use Rattle.rinda_notify.specs.declared.note.Note.{Note}
use Rattle.rinda_notify.specs.Notes.{note_of}
use Rattle.rinda_notify.proofs.Told.{row_seen}
use Rattle.rinda_notify.proofs.laws.note_is_found.Goals as goal

pub returns : goal.returns
returns c s id n there = row_seen (λ (n : Notifier). n.id) (λ (n : Note). n.id) (note_of s.events) id s.notifiers n (λ n. refl) there
