use Rattle.std.proofs.Common.{◌≡◌, ◌∙◌, ap, Bool, true, false, not, arith}
use Rattle.std.specs.BTreeMap.{is_at}
use Rattle.std.specs.Set.{remove_key}
use Rattle.std.specs.Ordering.{nat_cmp}
use Rattle.rinda_bag.proofs.Indexed.{remove-insert}
use Rattle.rinda_bag.proofs.keys.add_keys.Goals as goal

absent : (a b : Bool) → a ≡ true → a ≡ not b → b ≡ false
absent a b e f = grind arith

pub returns-then-added-clause-no : goal.returns-then-added-clause-no
returns-then-added-clause-no c =
    c.remove.ensures.keys
    ∙ ap (remove_key (is_at (nat_cmp c.key_of-first_key.result))) (c.in-Err.ensures.err ∙ c.in-Ok.ensures.keys)
    ∙ remove-insert c.key_of-first_key.result c.args.keys.now.keys (absent _ _ c.if-added.true c.in-Ok.ensures.added)
