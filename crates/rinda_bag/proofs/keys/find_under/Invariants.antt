use Rattle.std.proofs.Common.{◌≡◌, ◌≤◌, ◌+◌}
use Rattle.std.specs.Prelude.{filter}
use Rattle.rinda_bag.specs.Indexes.{rows_at, is_of}
use Rattle.rinda_bag.specs.Wanted.{least_wanted, opening_rows}
use Rattle.rinda_bag.proofs.keys.find_under.Given as goal

-- what is found among the rows of the keys that are left is what is found among all, and the steps are paid for by the others
abbrev pub invariant-loop-key : goal.invariant-loop-key
invariant-loop-key g l =
    (least_wanted l.now l.free l.pattern (rows_at l.rows l.key-iterator) ≡ least_wanted l.now l.free l.pattern (rows_at l.rows (filter (is_of l.mark) l.keys.keys)))
    × (l.steps + opening_rows l.pattern (rows_at l.rows l.key-iterator) ≤ l.fn.steps + opening_rows l.pattern (rows_at l.rows (filter (is_of l.mark) l.keys.keys)))
