use Rattle.std.proofs.Common.{◌≡◌, ◌++◌}
use Rattle.rinda_wait.specs.Waiting.{open_ids}
use Rattle.rinda_wait.proofs.waits.open_in.Given as goal

-- the ids so far, and those of the rows that are left, are all
abbrev pub invariant-loop-row : goal.invariant-loop-row
invariant-loop-row l = l.ids.items ++ open_ids l.row-iterator ≡ open_ids l.table
