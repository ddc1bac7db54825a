use Rattle.std.proofs.Common.{take}
use Rattle.rinda_rules.specs.Rows.{row_of}
use Rattle.rinda_tables.specs.Deadlines.{ahead_at, Stands}
use Rattle.rinda_tables.specs.Starting.{note_stage_by, stage_or}
use Rattle.rinda_tables.proofs.starting.stand_notes.Given as goal

-- the notifiers so far stand
abbrev pub invariant-loop-note : goal.invariant-loop-note
invariant-loop-note l = Stands (λ q. stage_or (note_stage_by l.leases) (row_of (λ n. n.row.id) q (take l.note-index l.stored)) (ahead_at l.fn.deadlines q)) l.deadlines
