use Rattle.std.proofs.Common.{◌≡◌, drop}
use Rattle.drb_tree.specs.Kept.{has_key}
use Rattle.drb_value.proofs.hashes.has_key.Given as goal

abbrev pub invariant-loop-pair : goal.invariant-loop-pair
invariant-loop-pair l = has_key l.key l.pairs ≡ has_key l.key (drop l.pair-index l.pairs)
