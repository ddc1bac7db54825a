use Rattle.std.proofs.Common.{◌∙◌, sym, ap, ℕ, List}
use Rattle.drb_tree.specs.declared.Code.{Code}
use Rattle.drb_tree.specs.declared.Code.TheVariants.{Ascii, Utf8}
use Rattle.marshal_grammar.specs.Spelled.{text_bytes}
use Rattle.marshal_write.proofs.Steps.{writes_as}
use Rattle.marshal_write.proofs.writer.Writer.put_text.Goals as goal

pub returns-in-Ascii : goal.returns-in-Ascii
returns-in-Ascii c =
    let t = c.args.text.now in
    let s = c.args.self.now.symbols in
    writes_as _ _ _ _ _ (ap (λ (bs : List ℕ). text_bytes bs Ascii s) c.as_slice-in-Ascii.ensures ∙ ap (λ (code : Code). text_bytes t.bytes code s) (sym c.in-Ascii.is)) c.put_encoded.ensures

pub returns-in-Utf8 : goal.returns-in-Utf8
returns-in-Utf8 c =
    let t = c.args.text.now in
    let s = c.args.self.now.symbols in
    writes_as _ _ _ _ _ (ap (λ (bs : List ℕ). text_bytes bs Utf8 s) c.as_slice-in-Utf8.ensures ∙ ap (λ (code : Code). text_bytes t.bytes code s) (sym c.in-Utf8.is)) c.put_encoded-in-Utf8.ensures
