use Rattle.std.proofs.Common.{◌≡◌, take}
use Rattle.rinda_audit.proofs.copies.copy_entries.Given as goal

-- what was copied so far
abbrev pub invariant-loop-row : goal.invariant-loop-row
invariant-loop-row l = l.copied.items ≡ take l.row-index l.rows
