use Rattle.std.proofs.Common.{refl, rules}
use Rattle.rinda_tables.specs.Starting.{note_stage_by}
use Rattle.rinda_tables.proofs.Started.{stands-more}
use Rattle.rinda_tables.proofs.starting.stand_notes.Goals as goal

pub loop-note-preserved : goal.loop-note-preserved
loop-note-preserved c = stands-more (λ n. n.row.id) (note_stage_by c.args.leases.now) c.args.stored.now c.loop-note.note-index c.note-item.result _ c.args.deadlines.now c.loop-note.deadlines c.stand_by.new.deadlines (search rules) c.note-item.is c.requires.rise (rw (c.find_lease-lease.ensures, c.runs.ensures) refl) c.loop-note.invariant c.in_ok-stand_by.ensures
