use Rattle.std.proofs.Common.{length}
use Rattle.rinda_rules.specs.declared.object.Last.TheVariants as last
use Rattle.rinda_rules.specs.Cases.{shut_notifier}
use Rattle.rinda_notify.specs.Notes.{note_of, shut_note}
use Rattle.rinda_notify.proofs.Told.{map_seen, shut_is_closed}
use Rattle.rinda_notify.proofs.laws.shut_is_closed.Goals as goal

pub returns : goal.returns
returns c s = map_seen (note_of s.events) (shut_notifier (length s.events)) (shut_note last.Canceled) s.notifiers (shut_is_closed s.events)
