use Rattle.std.proofs.Common.{◌≡◌, ◌≤◌, ◌<◌, ◌^◌, true, take}
use Rattle.rinda_rules.specs.Space.{is_due_notifier}
use Rattle.rinda_audit.specs.Aging.{none_due}
use Rattle.rinda_audit.proofs.aging.least_notifier.Given as goal

-- the least of the rows so far
abbrev pub invariant-loop-n : goal.invariant-loop-n
invariant-loop-n l = record {
  most : l.least ≤ l.most;
  from : l.from ≤ l.most → l.from ≤ l.least;
  id : l.least < l.most → l.least < 2 ^ 64;
  undue : none_due (λ n. n.id) (is_due_notifier l.now) l.from l.least (take l.n-index l.rows) ≡ true;
}
