use Rattle.std.proofs.Common.{◌≡◌, map, take}
use Rattle.rinda_rules.specs.Cases.{shut_notifier}
use Rattle.rinda_audit.proofs.shutting.shut_notifiers.Given as goal

-- the notifiers so far
abbrev pub invariant-loop-row : goal.invariant-loop-row
invariant-loop-row l = l.all.items ≡ map (shut_notifier l.until) (take l.row-index l.rows)
