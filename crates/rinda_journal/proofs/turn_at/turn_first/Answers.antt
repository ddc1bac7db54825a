use Rattle.std.proofs.lemmas.Result.{err_from_is_err_and}
use Rattle.rinda_journal.proofs.Places.{none_first, turn_first, other_first}
use Rattle.rinda_journal.proofs.turn_at.turn_first.Goals as goal

pub returns-in_err-turn-clause-every_turn : goal.returns-in_err-turn-clause-every_turn
returns-in_err-turn-clause-every_turn c = λ t n h.
    let p = err_from_is_err_and c.from_residual.result c.from_residual.ensures.1 in
    rw (p.1, p.2) (none_first c.args.bytes.now c.in_err-turn.field-0.0 t n c.in_err-turn.ensures h)

pub returns-in-Ok-clause-every_turn : goal.returns-in-Ok-clause-every_turn
returns-in-Ok-clause-every_turn c = λ t n h. turn_first c.args.bytes.now c.in_ok-turn.turn t c.in-Ok.size n c.in_ok-turn.ensures c.in-Ok.ensures h

pub returns-in-Err-clause-every_turn : goal.returns-in-Err-clause-every_turn
returns-in-Err-clause-every_turn c = λ t n h. other_first c.args.bytes.now c.in_ok-turn.turn t n c.in-Err.error c.in_ok-turn.ensures c.in-Err.ensures h
