-- Which notifiers have changed for those who wait for their events. docs/SPACE.md, Changed.
use Rattle.std.specs.Prelude.{◌≡◌, ℕ, Bool, true, false, not, ◌&&◌, ◌||◌, nat_lt, List, length, Option, Some, None}
use Rattle.rinda_notify.specs.declared.note.Note.{Note}
use Rattle.rinda_notify.specs.Notes.{Standing, note_at, is_open}
use Rattle.rinda_notify.specs.Undoing.{is_in}

-- the notifier is gone or closed, or its queue is longer than it was
abbrev pub has_grown : Note → Option Note → Bool
has_grown before None = true
has_grown before (Some after) =
    not (is_open after.state) || nat_lt (length before.queue) (length after.queue)

-- it ran, and since then it has heard an event, was closed, or is gone
abbrev pub has_changed : Option Note → Option Note → Bool
has_changed None after = false
has_changed (Some before) after = is_open before.state && has_grown before after

-- each notifier that has changed ahead of what stands is one of those
abbrev pub NamesChanged : Standing → List ℕ → Type 0
NamesChanged notes ids = (id : ℕ) →
    has_changed (note_at id notes.list) (note_at id notes.ahead) ≡ true → is_in ids id ≡ true
