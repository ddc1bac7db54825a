use Rattle.std.proofs.Common.{refl, ◌+◌, ◌∷◌}
use Rattle.rinda_rules.specs.declared.plain.Notifier.{Notifier}
use Rattle.rinda_notify.specs.declared.note.Note.{Note}
use Rattle.rinda_notify.specs.Notes.{note_of}
use Rattle.rinda_notify.specs.Notes.{advanced}
use Rattle.rinda_notify.proofs.Told.{row_seen, one_seen, pop_advances}
use Rattle.rinda_notify.proofs.Ended.{pop_is}
use Rattle.rinda_notify.proofs.laws.pop_gives_one.Goals as goal

pub returns : goal.returns
returns c s id n e rest up there is = (
  pop_is s.events n n.state (e ∷ rest) _ (row_seen (λ (n : Notifier). n.id) (λ (n : Note). n.id) (note_of s.events) id s.notifiers n (λ n. refl) there) refl is,
  one_seen (λ (n : Notifier). n.id) (λ (n : Note). n.id) (note_of s.events) id (λ n. record n { popped = n.popped + 1 }) advanced s.notifiers n (λ n. refl) up there (pop_advances s.events n e rest is),
)
