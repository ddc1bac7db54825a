use Rattle.std.proofs.Common.{◌≡◌, ◌-◌, ◌≤◌, length}
use Rattle.rinda_journal.specs.Reading.{values_of}
use Rattle.rinda_journal.proofs.Joined.{followed}
use Rattle.rinda_journal.proofs.cursor.Cursor.values.Given as goal

abbrev pub invariant-loop-alloc : goal.invariant-loop-alloc
invariant-loop-alloc l = record {
  reads : values_of l.count l.fn.self ≡ followed l.values (values_of (l.count - length l.values) l.self);
  within : length l.values ≤ l.count;
}

abbrev pub decreases-loop-alloc : goal.decreases-loop-alloc
decreases-loop-alloc l = l.count - length l.values
