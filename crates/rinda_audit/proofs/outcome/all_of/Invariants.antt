use Rattle.std.proofs.Common.{◌≡◌, map, filter, take, ◌&&◌}
use Rattle.rinda_tuple.specs.Tuples.{value_of}
use Rattle.rinda_tuple.specs.Matching.{matches}
use Rattle.rinda_rules.specs.Space.{is_live}
use Rattle.rinda_audit.proofs.outcome.all_of.Given as goal

-- those of the tuples so far
abbrev pub invariant-loop-t : goal.invariant-loop-t
invariant-loop-t l = l.all ≡ map (λ t. value_of t.value) (filter (λ t. matches l.pattern t.value && is_live l.now t) (take l.t-index l.tuples))
