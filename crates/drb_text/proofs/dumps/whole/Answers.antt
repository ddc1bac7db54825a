use Rattle.std.proofs.Common.{rules, arith}
use Rattle.drb_text.proofs.Hexes.{whole_some, whole_none, whole_refused}
use Rattle.drb_text.proofs.dumps.whole.Goals as goal

pub returns-then-len-bytes : goal.returns-then-len-bytes
returns-then-len-bytes c = whole_none c.args.bytes.now c.in-Ok.value c.in-Ok.len (search rules) c.if-len-bytes.true

pub returns-else-len-bytes : goal.returns-else-len-bytes
returns-else-len-bytes c = whole_some c.args.bytes.now c.in-Ok.value c.in-Ok.len (search rules) c.if-len-bytes.false

pub returns-in-Err-Refused : goal.returns-in-Err-Refused
returns-in-Err-Refused c = whole_refused c.args.bytes.now c.in-Err-Refused.field-0-0 (c.in-Err-Refused.ensures.refusal c.in-Err-Refused.field-0-0 (search rules))
