use Rattle.std.proofs.Common.{rules}
use Rattle.marshal_write.proofs.Steps.{writes_then, gave_up_first}
use Rattle.marshal_write.proofs.writer.Writer.put_encoded.Goals as goal

pub returns-in_err-put_marked : goal.returns-in_err-put_marked
returns-in_err-put_marked c = gave_up_first _ _ _ _ _ _ (search rules) c.in_err-put_marked.ensures

pub returns : goal.returns
returns c = writes_then _ _ _ _ _ _ c.in_ok-put_marked.ensures c.put_encoding.ensures
