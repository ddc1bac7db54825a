use Rattle.std.proofs.Common.{◌∙◌, ap, rules}
use Rattle.rinda_notify.specs.Notes.{Standing}
use Rattle.rinda_notify.specs.Tables.{below}
use Rattle.rinda_tables.proofs.Started.{notes-below}
use Rattle.rinda_tables.proofs.starting.notes_from.Goals as goal

pub load-requires-clause-above : goal.load-requires-clause-above
load-requires-clause-above c =
    ap (λ (t : Standing). below c.note-item.result.row.id t.ahead) c.loop-note.invariant
    ∙ notes-below c.args.leases.now c.args.stored.now c.loop-note.note-index c.note-item.result (search rules) c.note-item.is c.requires.rise
