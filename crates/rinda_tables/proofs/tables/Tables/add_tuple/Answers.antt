use Rattle.rinda_tables.specs.Tabled.{ahead_of}
use Rattle.rinda_tables.proofs.HoldingMinted.{added-tuple}
use Rattle.rinda_tables.proofs.tables.Tables.add_tuple.Goals as goal
use Rattle.std.proofs.Common.{refl}

pub returns-clause-added : goal.returns-clause-added
returns-clause-added c = λ s h. added-tuple s (ahead_of c.args.self.now) _ c.in-Ok.id c.args.value c.args.deadline c.args.renewer h c.in-Ok.ensures.id refl refl c.in-Ok.ensures.minted c.in_ok-put.ensures.ahead refl refl c.in_ok-set.ensures.set.ahead
