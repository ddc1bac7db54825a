use Rattle.std.proofs.Common.{◌≡◌, ◌∙◌, ◌-◌, ap, ℕ, ℤ, pos, negsuc, rules, to_z, of_z}
use mir.Syntax.{w128}
use Rattle.marshal_grammar.specs.Spelled.{these, int_bytes}
use Rattle.marshal_write.proofs.Steps.{writes_as}
use Rattle.marshal_write.proofs.Bytes.{negative_is, positive_is}
use Rattle.marshal_write.proofs.writer.Writer.put_int.Goals as goal

pub returns-then-n-lt0 : goal.returns-then-n-lt0
returns-then-n-lt0 c =
    let e : to_z w128 (of_z w128 c.args.n) ≡ c.args.n = search rules in
    writes_as _ _ _ _ _ (ap (λ (n : ℤ). these (int_bytes n) c.args.self.now.symbols) (ap (λ (m : ℕ). negsuc (m - 1)) c.unsigned_abs.ensures.value ∙ negative_is _ c.if-n-lt0.true ∙ e)) c.put_negative.ensures

pub returns-else-n-lt0 : goal.returns-else-n-lt0
returns-else-n-lt0 c =
    let e : to_z w128 (of_z w128 c.args.n) ≡ c.args.n = search rules in
    writes_as _ _ _ _ _ (ap (λ (n : ℤ). these (int_bytes n) c.args.self.now.symbols) (ap pos c.unsigned_abs-else-n-lt0.ensures.value ∙ positive_is _ c.if-n-lt0.false ∙ e)) c.put_positive.ensures
