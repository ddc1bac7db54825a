use Rattle.std.proofs.Common.{◌≡◌, ◌++◌}
use Rattle.rinda_notify.specs.Tables.{listeners}
use Rattle.rinda_notify.proofs.rows.Rows.listeners_to.Given as goal

-- those found so far and those among the rows that are left are all
abbrev pub invariant-loop-row : goal.invariant-loop-row
invariant-loop-row l = l.ids.items ++ listeners l.name l.tuple l.row-iterator ≡ listeners l.name l.tuple l.self
