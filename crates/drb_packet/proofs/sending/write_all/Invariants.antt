use Rattle.std.proofs.Common.{◌-◌, ◌≤◌, length, take}
use Rattle.drb_outside.specs.Changes.{ChangesBytes}
use Rattle.drb_packet.specs.Writes.{GivenMore}
use Rattle.drb_packet.proofs.sending.write_all.Given as goal

abbrev pub invariant-loop-at : goal.invariant-loop-at
invariant-loop-at g l = record {
  given : ChangesBytes g.K.Sink.given g.K.Sink.stays g.K.Sink.holds g.K.Sink.faults l.fn.output l.output (GivenMore (take l.at l.bytes));
  within : l.at ≤ length l.bytes;
}

abbrev pub decreases-loop-at : goal.decreases-loop-at
decreases-loop-at g l = length l.bytes - l.at
