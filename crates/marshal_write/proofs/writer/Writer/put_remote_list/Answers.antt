use Rattle.std.proofs.Common.{rules}
use Rattle.marshal_grammar.specs.Spelled.{id_bytes_of}
use Rattle.marshal_write.proofs.Steps.{writes_then, gave_up_then}
use Rattle.marshal_write.proofs.writer.Writer.put_remote_list.Goals as goal

pub returns-in_err-put_text : goal.returns-in_err-put_text
returns-in_err-put_text c = gave_up_then _ _ (id_bytes_of c.args.remote.now.id) _ _ _ _ _ (search rules) c.in_ok-put.ensures c.in_err-put_text.ensures

pub returns : goal.returns
returns c = writes_then _ _ _ _ _ _ c.in_ok-put.ensures (writes_then _ _ _ _ _ _ c.in_ok-put_text.ensures c.put_id.ensures)
