use Rattle.std.proofs.Common.{◌∙◌}
use Rattle.drb_ids.proofs.Reviving.{revived-more, taken-more}
use Rattle.drb_ids.proofs.table.revive.Goals as goal

pub loop-preserved : goal.loop-preserved
loop-preserved c =
    let r = c.revive_last.ensures in
    let i = c.loop.invariant in (
      (rw (i.1, i.0) at r.objects) ∙ revived-more c.loop.counter c.args.more c.args.ended.now.items c.args.objects.now.entries c.loop-test.true c.requires.since,
      (rw i.1 at r.ended) ∙ taken-more c.loop.counter c.args.more c.args.ended.now.items c.loop-test.true c.requires.since,
      r.tied,
      r.room,
    )
