use Rattle.std.proofs.Common.{◌≡◌, take, ◌+◌}
use Rattle.rinda_rules.specs.Rows.{changed}
use Rattle.rinda_audit.proofs.changes.popped_notifiers.Given as goal

-- what was made so far, with what is left
abbrev pub invariant-loop-row : goal.invariant-loop-row
invariant-loop-row l = l.popped.items ≡ changed (λ row. row.id) l.id (λ row. record row { popped = row.popped + 1 }) (take l.row-index l.rows)
