use Rattle.std.proofs.Common.{◌≡◌, ◌++◌}
use Rattle.std.specs.VecDeque.Iter.{deque_iter_rest}
use Rattle.rinda_lease.specs.Orders.{due_ids}
use Rattle.rinda_lease.proofs.keys.due_ids.Given as goal

-- with those of the keys that are left it is what all make
abbrev pub invariant-loop-key : goal.invariant-loop-key
invariant-loop-key l = l.ids.items ++ due_ids l.now (deque_iter_rest l.key-iterator) ≡ due_ids l.now l.keys.items
