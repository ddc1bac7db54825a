use Rattle.std.proofs.Common.{rules, ap, ◌∙◌, List, ℕ}
use Rattle.marshal_grammar.specs.Spelled.{these, string_bytes_of, symbol_bytes}
use Rattle.marshal_write.proofs.Steps.{writes_then, writes_as, written_as, stopped_as, gave_up_then}
use Rattle.marshal_write.proofs.writer.Writer.put_dumped_as.Goals as goal

pub returns-in_err-put_symbol : goal.returns-in_err-put_symbol
returns-in_err-put_symbol c =
    let d = c.args.dumped.now in
    gave_up_then (these c.args.mark.now) (symbol_bytes d.0) (these (string_bytes_of d.1)) _ _ _ _ _ (search rules) c.in_ok-put.ensures
    (stopped_as _ (symbol_bytes d.0) _ _ _ (ap (λ (n : List ℕ). symbol_bytes n c.put.new.self.symbols) (c.as_slice.ensures.bytes ∙ c.class.ensures.class)) c.in_err-put_symbol.ensures)

pub returns : goal.returns
returns c =
    let d = c.args.dumped.now in
    writes_then (these c.args.mark.now) _ _ _ _ _ c.in_ok-put.ensures
    (writes_then (symbol_bytes d.0) (these (string_bytes_of d.1)) _ _ _ _
    (written_as _ (symbol_bytes d.0) _ _ (ap (λ (n : List ℕ). symbol_bytes n c.put.new.self.symbols) (c.as_slice.ensures.bytes ∙ c.class.ensures.class)) c.in_ok-put_symbol.ensures)
    (writes_as _ (these (string_bytes_of d.1)) _ _ _ (ap (λ (bs : List ℕ). these (string_bytes_of bs) c.put_symbol.new.self.symbols) c.bytes.ensures) c.put_string.ensures))
