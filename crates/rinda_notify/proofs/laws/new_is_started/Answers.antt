use Rattle.std.proofs.Common.{List, [], ◌∷◌, ◌++◌, map, ap, ◌∙◌}
use Rattle.std.proofs.lemmas.List.{map-append}
use Rattle.rinda_rules.specs.declared.plain.Raised.{Raised}
use Rattle.rinda_rules.specs.Space.{event_value, hears}
use Rattle.rinda_rules.specs.Cases.{new_notifier}
use Rattle.rinda_effects.proofs.Queueing.{none_since}
use Rattle.rinda_notify.specs.Notes.{note_of}
use Rattle.rinda_notify.specs.Laws.{notes_in, new_note}
use Rattle.rinda_notify.proofs.laws.new_is_started.Goals as goal

pub returns : goal.returns
returns c s event pattern lease =
    map-append (note_of s.events) s.notifiers (new_notifier s event pattern lease ∷ [])
    ∙ ap (λ (q : List Raised). notes_in s ++ record (new_note s event pattern lease) { queue = map event_value q } ∷ []) (none_since (hears (new_notifier s event pattern lease)) s.events)
