use Rattle.std.proofs.Common.{◌≡◌, ◌++◌}
use Rattle.rinda_bag.specs.Wanted.{all_wanted}
use Rattle.rinda_bag.proofs.rows.Rows.find_all.Given as goal

-- what was found, and what is found among the rows that are left, is what is found among all
abbrev pub invariant-loop-row : goal.invariant-loop-row
invariant-loop-row l = l.found.items ++ all_wanted l.now l.pattern l.row-iterator ≡ all_wanted l.now l.pattern l.self
