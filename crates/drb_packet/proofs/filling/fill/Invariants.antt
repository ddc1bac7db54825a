use Rattle.std.proofs.Common.{◌-◌, ◌≤◌, vec_len}
use Rattle.drb_outside.specs.Changes.{ChangesBytes}
use Rattle.drb_packet.specs.Reads.{Moves}
use Rattle.drb_packet.proofs.filling.fill.Given as goal

abbrev pub invariant-loop-source : goal.invariant-loop-source
invariant-loop-source g l = record {
  moves : ChangesBytes g.S.Source.left g.S.Source.stays g.S.Source.holds g.S.Source.faults l.fn.source l.source (Moves l.fn.out.items l.out.items);
  within : vec_len l.out ≤ l.want;
}

abbrev pub decreases-loop-source : goal.decreases-loop-source
decreases-loop-source g l = l.want - vec_len l.out
