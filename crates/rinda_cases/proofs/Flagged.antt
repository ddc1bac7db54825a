-- The flags of a notifier are those of its note.
use Rattle.std.proofs.Common.{◌≡◌, ℕ, Bool, List, refl}
use Rattle.std.specs.Prelude.{not, ◌&&◌, ◌||◌}
use Rattle.rinda_rules.specs.declared.object.Doubt.{Doubt}
use Rattle.rinda_rules.specs.declared.plain.Notifier.{Notifier}
use Rattle.rinda_rules.specs.declared.plain.Raised.{Raised}
use Rattle.rinda_rules.specs.declared.plain.Hearing.{Hearing}
use Rattle.rinda_rules.specs.declared.plain.Hearing.TheVariants as hearing
use Rattle.rinda_rules.specs.Starts.{closed_as}
use Rattle.rinda_rules.specs.Space.{is_doubted, is_over}
use Rattle.rinda_rules.specs.Cases.{flags, is_expired, is_canceled, hearing_last, hearing_runs, notifier_flags}
use Rattle.rinda_notify.specs.Notes.{note_of, is_open}
use Rattle.rinda_cases.specs.Flagged.{note_last, note_flags}

by-state : (st : Hearing) (over : Bool) (d : Doubt) → flags (is_expired (note_last (closed_as st)) || (is_open (closed_as st) && over)) (is_canceled (note_last (closed_as st))) d ≡ flags (is_expired (hearing_last st) || (hearing_runs st && over)) (is_canceled (hearing_last st)) d
by-state hearing.Running over d = refl
by-state (hearing.Closed last until) over d = refl

pub noted-flags : (events : List Raised) (now : ℕ) (n : Notifier) → note_flags now (note_of events n) ≡ notifier_flags now n
noted-flags events now n = by-state n.state (not (is_doubted n.doubt) && is_over now n.deadline) n.doubt
