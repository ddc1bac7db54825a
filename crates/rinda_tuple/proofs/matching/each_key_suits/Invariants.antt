use Rattle.std.proofs.Common.{◌≡◌, drop}
use Rattle.rinda_tuple.specs.Matching.{each_key_suits as each_key_suits_spec}
use Rattle.rinda_tuple.proofs.matching.each_key_suits.Given as goal

-- the elements that are left have the same answer as all of them
abbrev pub invariant-loop-e : goal.invariant-loop-e
invariant-loop-e l = each_key_suits_spec l.es l.pairs ≡ each_key_suits_spec (drop l.e-index l.es) l.pairs
