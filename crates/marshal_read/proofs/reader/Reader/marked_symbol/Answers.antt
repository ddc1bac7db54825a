use Rattle.std.proofs.lemmas.Result.{err_from_is_err_and}
use Rattle.marshal_read.proofs.Names.{marked_symbol_fails}
use Rattle.marshal_read.specs.Fails.{error_of}
use Rattle.marshal_read.proofs.reader.Reader.marked_symbol.Goals as goal

pub returns-in_err-code : goal.returns-in_err-code
returns-in_err-code c =
    let p = err_from_is_err_and c.from_residual-in_err-code.result c.from_residual-in_err-code.ensures.1 in
    rw (p.1, p.2) (record {
      ok = tt;
      kept = tt;
      err = marked_symbol_fails (error_of c.in_err-code.field-0.0 c.encoding.new.self.refused) c.args.at c.in_ok-s.s.now c.args.self.now c.string.new.self c.add_symbol.new.self c.in_ok-s.ensures.ok c.in_ok-add_symbol.ensures c.in_err-code.ensures.err;
    })
