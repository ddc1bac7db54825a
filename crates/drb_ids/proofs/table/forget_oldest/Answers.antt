use Rattle.std.proofs.Common.{◌≡◌, ◌∙◌, ℕ, ◌-◌, List, ap, drop, length, arith}
use Rattle.rinda_rules.specs.declared.plain.Ended.{Ended}
use Rattle.drb_ids.proofs.Reviving.{drop-one-more}
use Rattle.drb_ids.proofs.table.forget_oldest.Goals as goal

pub loop-preserved : goal.loop-preserved
loop-preserved c =
    let f = c.forget_first.ensures in
    let i = c.loop.invariant in (
      i.0,
      omega (arith, i.0, c.loop-test.true),
      f.ended ∙ ap (λ (z : List Ended). drop 1 z) i.2 ∙ drop-one-more c.loop.counter c.args.ended.now.items c.loop.auto.counter,
      f.tied,
      f.room,
      f.live ∙ i.5,
      λ given h. f.minted given (i.6 given h),
    )

pub returns-clause-ended : goal.returns-clause-ended
returns-clause-ended c =
    let n : c.loop.counter - 4096 ≡ length c.args.ended.now.items - 4096 = omega (arith, c.loop.auto.counter, c.loop.auto.counter-end, c.loop-test.false, c.loop.invariant.0, c.loop.invariant.1) in
    c.loop.invariant.2 ∙ ap (λ (n : ℕ). drop n c.args.ended.now.items) n
