use Rattle.std.proofs.Common.{refl, rules}
use Rattle.rinda_tables.specs.Starting.{tuple_stage_by}
use Rattle.rinda_tables.proofs.Started.{stands-more}
use Rattle.rinda_tables.proofs.starting.stand_tuples.Goals as goal

pub loop-row-preserved : goal.loop-row-preserved
loop-row-preserved c = stands-more (λ t. t.id) (tuple_stage_by c.args.leases.now) c.args.rows.now c.loop-row.row-index c.row-item.result _ c.args.deadlines.now c.loop-row.deadlines c.stand_by.new.deadlines (search rules) c.row-item.is c.requires.rise (rw (c.find_lease-lease.ensures, c.is_free.ensures) refl) c.loop-row.invariant c.in_ok-stand_by.ensures
