use Rattle.std.proofs.Common.{◌≡◌, take}
use Rattle.rinda_rules.specs.Rows.{without}
use Rattle.rinda_audit.proofs.rows.requests_without.Given as goal

-- what was kept so far
abbrev pub invariant-loop-row : goal.invariant-loop-row
invariant-loop-row l = l.left.items ≡ without (λ row. row.id) l.id (take l.row-index l.rows)
