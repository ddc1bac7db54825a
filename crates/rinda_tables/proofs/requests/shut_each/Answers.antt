use Rattle.std.proofs.Common.{◌∙◌, ◌+◌, ℕ, List, drop, ap, sym, arith, rules}
use Rattle.std.proofs.lemmas.List.{at_drop_more}
use Rattle.rinda_rules.specs.Cases.{shut_request}
use Rattle.rinda_tables.specs.Asking.{changed_each}
use Rattle.rinda_tables.proofs.Gone.{rising-changed}
use Rattle.rinda_tables.proofs.Asked.{shut-keeps}
use Rattle.rinda_tables.proofs.requests.shut_each.Goals as goal

pub loop-id-preserved : goal.loop-id-preserved
loop-id-preserved c =
    let kept = c.loop-id.invariant in (
      ap (changed_each (drop (c.loop-id.id-index + 1) c.args.ids.now) shut_request) c.shut_one.ensures.waits
          ∙ sym (at_drop_more (λ (ids : List ℕ). changed_each ids shut_request c.loop-id.waits) c.args.ids.now c.loop-id.id-index 0 (search rules))
          ∙ kept.0,
      c.shut_one.ensures.back ∙ kept.1,
      c.shut_one.ensures.added ∙ kept.2,
      rw c.shut_one.ensures.waits (rising-changed (λ r. r.id) _ shut_request c.loop-id.waits shut-keeps kept.3),
      grind (arith, c.shut_one.ensures.len, kept.4),
      c.shut_one.ensures.capacity ∙ kept.5,
    )
