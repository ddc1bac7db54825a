use Rattle.std.proofs.Common.{◌≡◌, ◌++◌}
use Rattle.std.specs.VecDeque.Iter.{deque_iter_rest}
use Rattle.rinda_lease.specs.Orders.{ids_of}
use Rattle.rinda_lease.proofs.keys.ids_of.Given as goal

-- with those of the keys that are left it is what all make
abbrev pub invariant-loop-key : goal.invariant-loop-key
invariant-loop-key l = l.ids.items ++ ids_of (deque_iter_rest l.key-iterator) ≡ ids_of l.keys.items
