use Rattle.std.proofs.Common.{◌≡◌, take}
use Rattle.rinda_rules.specs.Rows.{changed}
use Rattle.rinda_audit.specs.Changes.{tuple_after}
use Rattle.rinda_audit.proofs.changes.change_tuples.Given as goal

-- what was made so far, with what is left
abbrev pub invariant-loop-row : goal.invariant-loop-row
invariant-loop-row l = l.changed.items ≡ changed (λ row. row.id) l.id (tuple_after l.change) (take l.row-index l.rows)
