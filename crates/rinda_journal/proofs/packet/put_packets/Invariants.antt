use Rattle.std.proofs.Common.{ℕ, List, drop}
use Rattle.std.specs.declared.result.Result.{Result}
use Rattle.rinda_journal.specs.declared.error.TurnTextError.{TurnTextError}
use Rattle.rinda_journal.specs.Writes.{Adds}
use Rattle.rinda_journal.proofs.packet.put_packets.Given as goal

abbrev pub invariant-loop-value : goal.invariant-loop-value
invariant-loop-value l = (r : Result (Unit {0}) TurnTextError) (c : List ℕ) → Adds (drop l.value-index l.values) r l.out.items c → Adds l.values r l.fn.out.items c
