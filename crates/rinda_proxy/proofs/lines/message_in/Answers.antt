use Rattle.std.proofs.Common.{◌≡◌, ℕ, List, true, ◌∙◌, sym, ap}
use Rattle.std.specs.Prelude.{codes, bytes_eq}
use Rattle.drb_tree.specs.declared.Tree.{Tree}
use Rattle.rinda_proxy.proofs.Messages.{message_here}
use Rattle.rinda_proxy.proofs.lines.message_in.Goals as goal

pub returns-then-eq : goal.returns-then-eq
returns-then-eq c =
    let name : c.as_slice.result.now ≡ c.field-item.result.0 = c.as_slice.ensures.bytes ∙ ap (λ (f : List ℕ × Tree). f.0) c.field.view_is in
    let is : bytes_eq c.field-item.result.0 (codes "mesg") ≡ true =
    ap (λ (q : List ℕ). bytes_eq q (codes "mesg")) (sym name) ∙ ap (λ (q : List ℕ). bytes_eq c.as_slice.result.now q) (sym c.as_slice-in-loop-field.ensures) ∙ sym c.eq.ensures ∙ c.if-eq.true in
    c.bytes_in.ensures ∙ sym (message_here c.args.fields.now c.loop-field.field-index c.field-item.result _ c.loop-field-test.true c.field-item.is (ap (λ (f : List ℕ × Tree). f.1) c.field.view_is) is) ∙ sym c.loop-field.invariant
