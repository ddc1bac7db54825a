use Rattle.std.proofs.Common.{◌≡◌, ◌++◌, drop, map, filter}
use Rattle.rinda_rules.specs.Space.{hears, event_value}
use Rattle.rinda_audit.proofs.queue.all_heard.Given as goal

-- those that were given so far, and those that are left, are the whole
abbrev pub invariant-loop-e : goal.invariant-loop-e
invariant-loop-e l = map event_value (drop l.n.popped (filter (hears l.n) l.events)) ≡ l.all ++ map event_value (drop l.left (filter (hears l.n) (drop l.e-index l.events)))
