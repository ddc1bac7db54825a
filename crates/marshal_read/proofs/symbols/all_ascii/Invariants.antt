use Rattle.std.proofs.Common.{◌≡◌, drop}
use Rattle.drb_tree.specs.Same.{all_ascii}
use Rattle.marshal_read.proofs.symbols.all_ascii.Given as goal

abbrev pub invariant-loop-b : goal.invariant-loop-b
invariant-loop-b l = all_ascii l.bytes ≡ all_ascii (drop l.b-index l.bytes)
