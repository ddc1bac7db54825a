use Rattle.std.proofs.Common.{◌≡◌, ◌++◌, drop}
use Rattle.rinda_cases.specs.Reads.{values_at}
use Rattle.rinda_cases.proofs.reading.values_of.Given as goal

-- those so far, and those of the ids that are left
abbrev pub invariant-loop-id : goal.invariant-loop-id
invariant-loop-id l = l.all ++ values_at l.tuples.ahead (drop l.id-index l.ids) ≡ values_at l.tuples.ahead l.ids
