use Rattle.std.proofs.Common.{rules}
use Rattle.drb_text.proofs.Puts.{grows_more, appends_not}
use Rattle.drb_text.proofs.forms.put_escaped.Goals as goal

pub returns-in_err-put_byte : goal.returns-in_err-put_byte
returns-in_err-put_byte c =
    appends_not _ _ _ c.in_err-put_byte.field-0.0 c.from_residual.result (search rules)
    (grows_more _ c.loop-byte.out.items _ c.loop-byte.invariant.grows c.in_err-put_byte.ensures)
