use Rattle.std.proofs.Common.{◌≡◌, false, sym, ◌∙◌, ap}
use Rattle.drb_tree.specs.Kept.{has_key}
use Rattle.drb_tree.proofs.Distinct.{keys_distinct-push}
use Rattle.drb_value.proofs.Pairs.push.Goals as goal

pub invariant_of-self-2 : goal.invariant_of-self-2
invariant_of-self-2 c =
    let h : has_key c.args.key c.self.inside.pairs ≡ false = ap (has_key c.args.key) (sym c.as_slice.ensures) ∙ sym c.has_key.ensures ∙ c.if-has_key.false in
    rw c.in_ok-push.ensures.ok (keys_distinct-push c.self.inside.pairs (c.args.key, c.args.value) c.self.invariant h)
