use Rattle.std.proofs.Common.{◌≡◌, ◌-◌, take, drop, length}
use Rattle.std.specs.VecDeque.{deque_capacity}
use Rattle.drb_ids.specs.Standings.{revived, IsTied, HasRoom}
use Rattle.drb_ids.proofs.table.revive.Given as goal

-- so many of the last ones are live again, and what is left is tied
abbrev pub invariant-loop : goal.invariant-loop
invariant-loop l =
    (l.objects.entries ≡ revived (drop (length l.fn.ended.items - l.counter) l.fn.ended.items) l.fn.objects.entries)
    × (l.ended.items ≡ take (length l.fn.ended.items - l.counter) l.fn.ended.items)
    × IsTied l.objects.entries l.ended.items
    × HasRoom 0 l.objects.entries (deque_capacity l.ended)
