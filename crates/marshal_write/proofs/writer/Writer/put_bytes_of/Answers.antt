use Rattle.std.proofs.Common.{◌∙◌, ap, ℕ, List, take}
use Rattle.marshal_grammar.specs.Spelled.{these}
use Rattle.marshal_write.proofs.Steps.{writes_as}
use Rattle.marshal_write.proofs.Bytes.{take-bytes_low_first}
use Rattle.marshal_write.proofs.writer.Writer.put_bytes_of.Goals as goal

pub returns : goal.returns
returns c =
    writes_as _ _ _ _ _ (ap (λ (bs : List ℕ). these bs c.args.self.now.symbols) (ap (take c.args.k) c.to_le_bytes-bytes.ensures ∙ take-bytes_low_first c.args.k 16 c.args.n c.requires)) c.put.ensures
