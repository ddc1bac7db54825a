use Rattle.std.proofs.Common.{◌≡◌}
use Rattle.packet_show.specs.Shown.{shown}
use Rattle.packet_show.proofs.pieces.see.Given as goal

abbrev pub invariant-loop-piece : goal.invariant-loop-piece
invariant-loop-piece l = l.seen ≡ shown l.fn.kind l.fn.bytes
