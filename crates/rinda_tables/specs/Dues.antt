-- Which rows of tables are due. docs/SPACE.md, Phases, Age.
use Rattle.std.specs.Prelude.{ℕ, Bool, not, ◌&&◌}
use Rattle.rinda_rules.specs.Space.{is_doubted, is_over}
use Rattle.rinda_notify.specs.declared.note.Note.{Note}
use Rattle.rinda_notify.specs.Notes.{is_open}

-- a notifier that runs and isn't doubted is due where its deadline is at most now
abbrev pub is_due_noted : ℕ → Note → Bool
is_due_noted now n = is_open n.state && (not (is_doubted n.doubt) && is_over now n.deadline)
