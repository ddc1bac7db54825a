use Rattle.std.proofs.Common.{Err, subst}
use Rattle.std.proofs.lemmas.Result.{err_from_is_err_and}
use Rattle.rinda_journal.specs.Parsers.{Left, Parses}
use Rattle.rinda_journal.specs.Reading.{next_value}
use Rattle.rinda_journal.proofs.Cursors.{value_failed, value_read}
use Rattle.rinda_journal.proofs.cursor.Cursor.value.Goals as goal

pub returns-in_err-value : goal.returns-in_err-value
returns-in_err-value c =
    let p = err_from_is_err_and c.from_residual.result c.from_residual.ensures.1 in
    rw (p.1, p.2) (subst (λ (s : Left). Parses next_value s c.args.self.now (Err c.in_err-value.field-0.0)) c.self.view_is (value_failed c.self.inside.fields.now c.self.inside.bytes.now c.args.self.now c.in_err-value.field-0.0 c.in_err-value.ensures))

pub returns : goal.returns
returns c = rw (← c.self.view_is) (value_read c.self.inside.fields.now c.self.inside.bytes.now c.in_ok-value.rest.now c.in_ok-value.value c.in_ok-value.ensures)
