use Rattle.std.proofs.Common.{◌-◌, ◌≤◌, length}
use Rattle.drb_outside.specs.Changes.{ChangesBytes}
use Rattle.drb_packet.proofs.Arguments.{Comes}
use Rattle.drb_packet.proofs.request.read_arguments.Given as goal

abbrev pub invariant-loop-alloc : goal.invariant-loop-alloc
invariant-loop-alloc g l = record {
  comes : ChangesBytes g.S.Source.left g.S.Source.stays g.S.Source.holds g.S.Source.faults l.fn.source l.source (Comes l.load l.count (l.count - length l.arguments) l.arguments);
  within : length l.arguments ≤ l.count;
}

abbrev pub decreases-loop-alloc : goal.decreases-loop-alloc
decreases-loop-alloc g l = l.count - length l.arguments
