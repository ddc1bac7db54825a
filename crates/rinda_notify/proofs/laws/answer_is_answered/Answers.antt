use Rattle.std.proofs.Common.{refl}
use Rattle.rinda_rules.specs.Space.{renewer_of}
use Rattle.rinda_rules.specs.Cases.{renewed_notifier}
use Rattle.rinda_notify.specs.Notes.{answered}
use Rattle.rinda_rules.specs.declared.plain.Notifier.{Notifier}
use Rattle.rinda_notify.specs.declared.note.Note.{Note}
use Rattle.rinda_notify.specs.Notes.{note_of}
use Rattle.rinda_notify.proofs.Told.{renew_is_renewed, one_seen}
use Rattle.rinda_notify.proofs.laws.answer_is_answered.Goals as goal

pub returns : goal.returns
returns c s id n deadline up there = one_seen (λ (n : Notifier). n.id) (λ (n : Note). n.id) (note_of s.events) id (renewed_notifier deadline (renewer_of deadline n.renewer s.clock)) (answered deadline s.clock) s.notifiers n (λ n. refl) up there (renew_is_renewed s.events deadline (renewer_of deadline n.renewer s.clock) n)
