use Rattle.std.proofs.Common.{◌∙◌, ◌+◌, ◌<◌, ◌++◌, length, drop, ap, arith}
use Rattle.rinda_cases.specs.Reads.{values_at}
use Rattle.rinda_cases.proofs.Values.{values-step}
use Rattle.rinda_cases.proofs.reading.values_of.Goals as goal

pub loop-id-preserved : goal.loop-id-preserved
loop-id-preserved c =
    let rows = c.args.tuples.now.ahead in
    let ids = c.args.ids.now in
    let i = c.loop-id.id-index in
    let bound : i < length ids = omega arith in
    ap (λ xs. xs ++ values_at rows (drop (i + 1) ids)) c.in_ok-push_value.ensures ∙ values-step rows ids i c.loop-id.all bound ∙ c.loop-id.invariant
