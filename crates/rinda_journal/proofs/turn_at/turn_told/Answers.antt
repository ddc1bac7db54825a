use Rattle.rinda_journal.proofs.Places.{told_by, left_is}
use Rattle.rinda_journal.proofs.turn_at.turn_told.Goals as goal

pub returns : goal.returns
returns c = told_by c.args.bytes.now c.in_ok-fields.fields c.in_ok-fields.rest c.new-cursor.result c.turn.result c.in_ok-fields.ensures (left_is c.new-cursor.result c.as_slice.result.now c.in_ok-fields.fields c.in_ok-fields.rest.now c.new-cursor.ensures c.as_slice.ensures) c.turn.ensures
