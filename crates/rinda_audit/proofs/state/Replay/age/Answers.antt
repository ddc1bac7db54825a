use Rattle.std.proofs.Common.{arith}
use Rattle.rinda_audit.proofs.Ages.{one_more, next_stays, all_aged}
use Rattle.rinda_audit.proofs.state.Replay.age.Goals as goal

pub loop-id-preserved : goal.loop-id-preserved
loop-id-preserved c = record {
  aged = one_more c.args.self.now c.loop-id.self c.age_at.new.self c.loop-id.from c.in-Some.id c.in-Some.ensures c.loop-id.invariant.aged c.in_ok-age_at.ensures;
  next = next_stays c.loop-id.self c.age_at.new.self c.in-Some.id c.args.self.now.next c.in_ok-age_at.ensures c.loop-id.invariant.next;
  within = omega (arith, c.in-Some.ensures.1, c.loop-id.invariant.next);
}

pub returns : goal.returns
returns c =
    all_aged c.args.self.now c.loop-id.self c.loop-id.from c.in_default.ensures c.loop-id.invariant.aged c.loop-id.invariant.next c.loop-id.invariant.within
