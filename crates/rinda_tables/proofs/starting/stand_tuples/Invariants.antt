use Rattle.std.proofs.Common.{take}
use Rattle.rinda_rules.specs.Rows.{row_of}
use Rattle.rinda_tables.specs.Deadlines.{ahead_at, Stands}
use Rattle.rinda_tables.specs.Starting.{tuple_stage_by, stage_or}
use Rattle.rinda_tables.proofs.starting.stand_tuples.Given as goal

-- the tuples so far stand
abbrev pub invariant-loop-row : goal.invariant-loop-row
invariant-loop-row l = Stands (λ q. stage_or (tuple_stage_by l.leases) (row_of (λ t. t.id) q (take l.row-index l.rows)) (ahead_at l.fn.deadlines q)) l.deadlines
