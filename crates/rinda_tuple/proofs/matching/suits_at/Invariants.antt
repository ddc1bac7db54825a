use Rattle.std.proofs.Common.{◌≡◌, drop}
use Rattle.rinda_tuple.specs.Matching.{suits_at as suits_at_spec}
use Rattle.rinda_tuple.proofs.matching.suits_at.Given as goal

-- the pairs that are left have the same answer as all of them
abbrev pub invariant-loop-pair : goal.invariant-loop-pair
invariant-loop-pair l = suits_at_spec l.key l.e l.pairs ≡ suits_at_spec l.key l.e (drop l.pair-index l.pairs)
