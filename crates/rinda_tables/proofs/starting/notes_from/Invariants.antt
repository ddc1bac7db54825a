use Rattle.std.proofs.Common.{◌≡◌, map, take}
use Rattle.rinda_notify.specs.Notes.{settled}
use Rattle.rinda_tables.specs.Starting.{note_by}
use Rattle.rinda_tables.proofs.starting.notes_from.Given as goal

-- the notifiers so far
abbrev pub invariant-loop-note : goal.invariant-loop-note
invariant-loop-note l = l.notes ≡ settled (map (note_by l.leases) (take l.note-index l.stored))
