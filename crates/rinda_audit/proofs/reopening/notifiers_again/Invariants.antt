use Rattle.std.proofs.Common.{◌≡◌, map, take}
use Rattle.rinda_rules.specs.Reopened.{notifier_again}
use Rattle.rinda_audit.proofs.reopening.notifiers_again.Given as goal

-- the notifiers so far
abbrev pub invariant-loop-row : goal.invariant-loop-row
invariant-loop-row l = l.all.items ≡ map notifier_again (take l.row-index l.rows)
