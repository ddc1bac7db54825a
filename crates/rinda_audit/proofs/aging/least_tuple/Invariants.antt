use Rattle.std.proofs.Common.{◌≡◌, ◌≤◌, ◌<◌, ◌^◌, true, take}
use Rattle.rinda_rules.specs.Space.{is_due_tuple}
use Rattle.rinda_audit.specs.Aging.{none_due}
use Rattle.rinda_audit.proofs.aging.least_tuple.Given as goal

-- the least of the rows so far
abbrev pub invariant-loop-t : goal.invariant-loop-t
invariant-loop-t l = record {
  most : l.least ≤ l.most;
  from : l.from ≤ l.most → l.from ≤ l.least;
  id : l.least < l.most → l.least < 2 ^ 64;
  undue : none_due (λ t. t.id) (is_due_tuple l.now) l.from l.least (take l.t-index l.rows) ≡ true;
}
