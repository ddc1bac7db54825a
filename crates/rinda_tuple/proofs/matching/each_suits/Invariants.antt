use Rattle.std.proofs.Common.{◌≡◌, drop}
use Rattle.rinda_tuple.specs.Matching.{each_suits as each_suits_spec}
use Rattle.rinda_tuple.proofs.matching.each_suits.Given as goal

-- what is left of both has the same answer as all of them
abbrev pub invariant-loop-i : goal.invariant-loop-i
invariant-loop-i l = each_suits_spec l.es l.xs ≡ each_suits_spec (drop l.i l.es) (drop l.i l.xs)
