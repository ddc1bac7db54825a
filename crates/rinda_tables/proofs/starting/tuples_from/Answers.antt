use Rattle.std.proofs.Common.{◌∙◌, ap, rules}
use Rattle.rinda_tables.specs.Undoing.{Tupled, below}
use Rattle.rinda_tables.proofs.Started.{tuples-below}
use Rattle.rinda_tables.proofs.starting.tuples_from.Goals as goal

pub load_tuple-requires-clause-above : goal.load_tuple-requires-clause-above
load_tuple-requires-clause-above c =
    ap (λ (t : Tupled). below (λ e. e.id) c.row-item.result.id t.list) c.loop-row.invariant
    ∙ tuples-below c.args.leases.now c.args.rows.now c.loop-row.row-index c.row-item.result (search rules) c.row-item.is c.requires.rise
