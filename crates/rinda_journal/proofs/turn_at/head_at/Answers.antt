use Rattle.std.proofs.lemmas.Result.{err_from_is_err_and}
use Rattle.rinda_journal.proofs.Places.{head_none, head_bad}
use Rattle.rinda_journal.proofs.turn_at.head_at.Goals as goal

pub returns-in_err-head : goal.returns-in_err-head
returns-in_err-head c =
    let p = err_from_is_err_and c.from_residual.result c.from_residual.ensures.1 in
    rw (p.1, p.2) (head_none c.args.bytes.now c.in_err-head.field-0.0 c.in_err-head.ensures)

pub returns : goal.returns
returns c = head_bad c.args.bytes.now c.in_ok-head.rest.now c.in_ok-head.head c.in-Err.error c.in_ok-head.ensures c.in-Err.ensures
