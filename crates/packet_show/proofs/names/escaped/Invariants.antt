use Rattle.std.proofs.Common.{◌≡◌, take}
use Rattle.packet_show.specs.Names.{escaped}
use Rattle.packet_show.proofs.names.escaped.Given as goal

abbrev pub invariant-loop-byte : goal.invariant-loop-byte
invariant-loop-byte l = l.out.items ≡ escaped (take l.byte-index l.name)
