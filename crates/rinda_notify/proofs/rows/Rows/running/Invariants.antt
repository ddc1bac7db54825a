use Rattle.std.proofs.Common.{◌≡◌, ◌++◌}
use Rattle.rinda_notify.specs.Tables.{running}
use Rattle.rinda_notify.proofs.rows.Rows.running.Given as goal

-- those found so far and those among the rows that are left are all
abbrev pub invariant-loop-row : goal.invariant-loop-row
invariant-loop-row l = l.ids.items ++ running l.row-iterator ≡ running l.self
