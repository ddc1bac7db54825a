use Rattle.drb_packet.proofs.Giving.{changes_write, written_once, rest_of, stays_within}
use Rattle.drb_packet.proofs.sending.write_all.Goals as goal

pub loop-at-preserved : goal.loop-at-preserved
loop-at-preserved g c = record {
  given = changes_write c.args.bytes.now _ c.loop-at.at c.in-Ok.count c.write.result (rest_of c.args.bytes.now c.loop-at.at) c.in-Ok.is c.loop-at.invariant.given (written_once _ _ _ _ _ _ _ _ c.write.ensures.bytes c.write.ensures.stays c.write.ensures.holds c.write.ensures.cause);
  within = stays_within c.args.bytes.now c.loop-at.at c.in-Ok.count c.loop-at.invariant.within c.in-Ok.ensures.bound;
}
