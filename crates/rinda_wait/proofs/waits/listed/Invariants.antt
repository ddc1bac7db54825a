use Rattle.std.proofs.Common.{◌≡◌, ◌++◌}
use Rattle.rinda_wait.proofs.waits.listed.Given as goal

-- the ids so far, and those that are left, are all
abbrev pub invariant-loop-id : goal.invariant-loop-id
invariant-loop-id l = l.ids.items ++ l.id-iterator ≡ l.found.keys
