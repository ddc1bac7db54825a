use Rattle.std.proofs.Common.{◌≡◌, ◌≤◌, length}
use Rattle.drb_text.specs.Numbers.{digits_from}
use Rattle.drb_text.proofs.numbers.digits_from.Given as goal

-- the digits that are left go on with the number so far
abbrev pub invariant-loop-first : goal.invariant-loop-first
invariant-loop-first l = record {
  same : digits_from l.fn.most l.fn.number l.fn.bytes ≡ digits_from l.most l.number l.rest;
  least : l.fn.number ≤ l.number;
  most : l.number ≤ l.most;
  within : length l.rest ≤ length l.fn.bytes;
}

abbrev pub decreases-loop-first : goal.decreases-loop-first
decreases-loop-first l = length l.rest
