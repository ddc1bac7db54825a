use Rattle.std.proofs.Common.{◌≡◌, drop}
use Rattle.rinda_rules.specs.Rows.{row_of}
use Rattle.rinda_audit.proofs.rows.request_row.Given as goal

-- the row is among those that are left
abbrev pub invariant-loop-row : goal.invariant-loop-row
invariant-loop-row l = row_of (λ row. row.id) l.id l.rows ≡ row_of (λ row. row.id) l.id (drop l.row-index l.rows)
