use Rattle.std.proofs.Common.{◌≡◌, ◌≤◌, ◌+◌}
use Rattle.rinda_bag.specs.Wanted.{least_wanted, opening_rows}
use Rattle.rinda_bag.proofs.rows.Rows.find.Given as goal

-- what is found among the rows that are left is what is found among all, and the steps are paid for by the others
abbrev pub invariant-loop-row : goal.invariant-loop-row
invariant-loop-row g l = (least_wanted l.now l.free l.pattern l.row-iterator ≡ least_wanted l.now l.free l.pattern l.self)
    × (l.steps + opening_rows l.pattern l.row-iterator ≤ l.fn.steps + opening_rows l.pattern l.self)
