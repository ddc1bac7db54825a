use Rattle.std.proofs.Common.{ℕ, List, drop}
use Rattle.std.specs.declared.result.Result.{Result}
use Rattle.marshal_write.specs.declared.error.WriteError.{WriteError}
use Rattle.drb_packet.specs.Texts.{Puts}
use Rattle.drb_packet.proofs.text.put_packets.Given as goal

abbrev pub invariant-loop-value : goal.invariant-loop-value
invariant-loop-value l = (r : Result (Unit {0}) WriteError) (c : List ℕ) → Puts (drop l.value-index l.values) r l.out.items c → Puts l.values r l.fn.out.items c
