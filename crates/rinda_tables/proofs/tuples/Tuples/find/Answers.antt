use Rattle.std.proofs.Common.{◌∙◌}
use Rattle.rinda_tables.proofs.Backs.{find-ahead}
use Rattle.rinda_tables.proofs.tuples.Tuples.find.Goals as goal

pub returns : goal.returns
returns g c = rw (← c.self.view_is) (c.find.ensures.least ∙ find-ahead c.self.inside.gone.items c.args.now c.args.free c.args.pattern.now c.self.inside.bag c.self.invariant.marked)
