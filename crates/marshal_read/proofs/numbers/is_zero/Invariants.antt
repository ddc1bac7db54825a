use Rattle.std.proofs.Common.{◌≡◌, drop}
use Rattle.std.specs.Prelude.{◌==◌}
use Rattle.marshal_grammar.specs.Longs.{little}
use Rattle.marshal_read.proofs.numbers.is_zero.Given as goal

abbrev pub invariant-loop-b : goal.invariant-loop-b
invariant-loop-b l = (little l.bytes == 0) ≡ (little (drop l.b-index l.bytes) == 0)
