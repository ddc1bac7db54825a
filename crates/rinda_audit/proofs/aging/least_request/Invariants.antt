use Rattle.std.proofs.Common.{◌≡◌, ◌≤◌, ◌<◌, ◌^◌, true, take}
use Rattle.rinda_rules.specs.Space.{is_due_request}
use Rattle.rinda_audit.specs.Aging.{none_due}
use Rattle.rinda_audit.proofs.aging.least_request.Given as goal

-- the least of the rows so far
abbrev pub invariant-loop-r : goal.invariant-loop-r
invariant-loop-r l = record {
  most : l.least ≤ l.most;
  from : l.from ≤ l.most → l.from ≤ l.least;
  id : l.least < l.most → l.least < 2 ^ 64;
  undue : none_due (λ r. r.id) (is_due_request l.now) l.from l.least (take l.r-index l.rows) ≡ true;
}
