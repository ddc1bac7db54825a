use Rattle.std.proofs.Common.{◌≡◌, ℕ, ◌-◌, ◌≤◌, true, drop, length}
use Rattle.std.specs.VecDeque.{deque_capacity}
use Rattle.drb_ids.specs.Standings.{live_of, are_minted, IsTied, HasRoom}
use Rattle.drb_ids.proofs.table.forget_oldest.Given as goal

-- what is left after so many is tied, and the same ids are live
abbrev pub invariant-loop : goal.invariant-loop
invariant-loop l =
    (l.len ≡ length l.fn.ended.items)
    × (l.counter - 4096 ≤ length l.fn.ended.items - 4096)
    × (l.ended.items ≡ drop (l.counter - 4096) l.fn.ended.items)
    × IsTied l.objects.entries l.ended.items
    × HasRoom 0 l.objects.entries (deque_capacity l.ended)
    × (live_of l.objects.entries ≡ live_of l.fn.objects.entries)
    × ((given : ℕ) → are_minted given l.fn.objects.entries ≡ true → are_minted given l.objects.entries ≡ true)
