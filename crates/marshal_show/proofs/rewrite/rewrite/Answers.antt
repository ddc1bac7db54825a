use Rattle.marshal_show.proofs.Rewritten.{rewrites_of}
use Rattle.marshal_show.proofs.rewrite.rewrite.Goals as goal

pub returns-in-Ok-clause-written : goal.returns-in-Ok-clause-written
returns-in-Ok-clause-written c = rewrites_of c.args.bytes.now c.in-Ok.value c.in-Ok.field-0-1 c.written.result c.in-Ok.ensures.dump c.written.ensures.written

pub returns-in-Ok-clause-too_long : goal.returns-in-Ok-clause-too_long
returns-in-Ok-clause-too_long c i = (c.in-Ok.value, c.in-Ok.field-0-1, c.in-Ok.ensures.dump, c.written.ensures.too_long i)
