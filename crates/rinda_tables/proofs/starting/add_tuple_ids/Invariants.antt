use Rattle.std.proofs.Common.{◌≡◌, ◌++◌, map, take}
use Rattle.rinda_tables.specs.Starting.{live_tuple}
use Rattle.rinda_tables.proofs.starting.add_tuple_ids.Given as goal

-- the ids so far
abbrev pub invariant-loop-row : goal.invariant-loop-row
invariant-loop-row l = l.live.items ≡ l.fn.live.items ++ map live_tuple (take l.row-index l.rows)
