use Rattle.std.proofs.Common.{◌≡◌, false, sym, ◌∙◌, ap}
use Rattle.drb_tree.specs.Kept.{has_name}
use Rattle.drb_tree.proofs.Distinct.{names_distinct-push}
use Rattle.drb_value.proofs.FieldList.push.Goals as goal

pub invariant_of-self-2 : goal.invariant_of-self-2
invariant_of-self-2 c =
    let h : has_name c.args.name c.self.inside.list ≡ false = ap (has_name c.args.name) (sym c.as_slice-2.ensures) ∙ ap (λ n. has_name n c.as_slice-2.result.now) (sym c.as_slice.ensures.bytes) ∙ sym c.has_name.ensures ∙ c.if-has_name.false in
    rw c.in_ok-push.ensures.ok (names_distinct-push c.self.inside.list (c.args.name, c.args.value) c.self.invariant h)
