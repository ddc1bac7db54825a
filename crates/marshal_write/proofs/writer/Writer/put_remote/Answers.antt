use Rattle.std.proofs.Common.{rules, ap, ◌∙◌, List, ℕ, Result, Err, Vec, Global}
use Rattle.marshal_grammar.specs.Spelled.{these, string_bytes_of, remote_bytes}
use Rattle.marshal_write.specs.declared.error.WriteError.{WriteError}
use Rattle.marshal_write.proofs.Steps.{writes_then, writes_as, gave_up_last, inner_stopped}
use Rattle.marshal_write.proofs.writer.Writer.put_remote.Goals as goal

pub returns-in_err-bytes : goal.returns-in_err-bytes
returns-in_err-bytes c =
    let b = c.put_symbol.new.self in
    let e = c.in_err-bytes.field-0.0 in
    gave_up_last _ _ _ _ _ _ _ _ _ (search rules) c.in_ok-put.ensures c.in_ok-put_symbol.ensures
    (inner_stopped (remote_bytes c.args.remote.now) b e _ (search rules) (λ i. c.in_err-bytes.ensures.too_long (ap (λ (x : WriteError). let y : Result (Vec ℕ Global) WriteError = Err x in y) i)))

pub returns : goal.returns
returns c =
    writes_then _ _ _ _ _ _ c.in_ok-put.ensures (writes_then _ _ _ _ _ _ c.in_ok-put_symbol.ensures
    (writes_as _ (these (string_bytes_of (remote_bytes c.args.remote.now))) _ _ _ (ap (λ (bs : List ℕ). these (string_bytes_of bs) c.put_symbol.new.self.symbols) (c.as_slice.ensures.value ∙ c.in_ok-bytes.ensures.bytes)) c.put_string.ensures))
