-- The flags of a notifier, by its note. docs/SPACE.md, Cases, Look.
use Rattle.std.specs.Prelude.{ℕ, not, ◌&&◌, ◌||◌}
use Rattle.rinda_rules.specs.declared.object.Last.{Last}
use Rattle.rinda_rules.specs.declared.object.Last.TheVariants as last
use Rattle.rinda_rules.specs.declared.row.NoteState.{NoteState}
use Rattle.rinda_rules.specs.declared.row.NoteState.TheVariants as state
use Rattle.rinda_rules.specs.declared.out.Flags.{Flags}
use Rattle.rinda_rules.specs.Space.{is_doubted, is_over}
use Rattle.rinda_rules.specs.Cases.{flags, is_expired, is_canceled}
use Rattle.rinda_notify.specs.declared.note.Note.{Note}
use Rattle.rinda_notify.specs.Notes.{is_open}

-- how a notifier has ended so far
abbrev pub note_last : NoteState → Last
note_last state.Running = last.Done
note_last (state.Closed last) = last

-- the flags of a notifier that has that note
abbrev pub note_flags : ℕ → Note → Flags
note_flags now n =
    flags (is_expired (note_last n.state)
    || (is_open n.state && (not (is_doubted n.doubt) && is_over now n.deadline)))
    (is_canceled (note_last n.state)) n.doubt
