use Rattle.std.proofs.Common.{◌≡◌, ◌≤◌, take}
use Rattle.std.specs.VecDeque.{deque_capacity}
use Rattle.drb_ids.proofs.table.kept_of.Given as goal

-- the first ones are kept so far, in the same room
abbrev pub invariant-loop-row : goal.invariant-loop-row
invariant-loop-row l = (l.kept.items ≡ take l.row-index l.ended) × (l.room ≤ deque_capacity l.kept)
