use Rattle.std.proofs.Common.{◌≡◌, ◌++◌, map, take}
use Rattle.rinda_tables.specs.Starting.{live_note}
use Rattle.rinda_tables.proofs.starting.add_note_ids.Given as goal

-- the ids so far
abbrev pub invariant-loop-note : goal.invariant-loop-note
invariant-loop-note l = l.live.items ≡ l.fn.live.items ++ map live_note (take l.note-index l.notes)
