use Rattle.std.proofs.Common.{◌≡◌, drop}
use Rattle.drb_tree.specs.Same.{all_ascii}
use Rattle.drb_tree.proofs.texts.all_ascii.Given as goal

abbrev pub invariant-loop-byte : goal.invariant-loop-byte
invariant-loop-byte l = all_ascii l.bytes ≡ all_ascii (drop l.byte-index l.bytes)
