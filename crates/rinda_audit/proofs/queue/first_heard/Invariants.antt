use Rattle.std.proofs.Common.{◌≡◌, drop, filter}
use Rattle.rinda_rules.specs.Space.{hears}
use Rattle.rinda_audit.proofs.queue.first_heard.Given as goal

-- what is left of the queue begins as the whole
abbrev pub invariant-loop-e : goal.invariant-loop-e
invariant-loop-e l = drop l.n.popped (filter (hears l.n) l.events) ≡ drop l.left (filter (hears l.n) (drop l.e-index l.events))
