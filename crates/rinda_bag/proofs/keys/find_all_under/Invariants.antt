use Rattle.std.proofs.Common.{◌≡◌, ◌++◌}
use Rattle.std.specs.Prelude.{filter}
use Rattle.rinda_bag.specs.Indexes.{rows_at, is_of}
use Rattle.rinda_bag.specs.Wanted.{all_wanted}
use Rattle.rinda_bag.proofs.keys.find_all_under.Given as goal

-- what was found, and what is found among the rows of the keys that are left, is what is found among all
abbrev pub invariant-loop-key : goal.invariant-loop-key
invariant-loop-key l = l.found.items ++ all_wanted l.now l.pattern (rows_at l.rows l.key-iterator) ≡ all_wanted l.now l.pattern (rows_at l.rows (filter (is_of l.mark) l.keys.keys))
