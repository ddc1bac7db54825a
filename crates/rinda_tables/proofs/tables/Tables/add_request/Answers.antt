use Rattle.rinda_tables.specs.Tabled.{ahead_of}
use Rattle.rinda_tables.proofs.HoldingMinted.{added-request}
use Rattle.rinda_tables.proofs.tables.Tables.add_request.Goals as goal
use Rattle.std.proofs.Common.{refl}

pub returns-clause-added : goal.returns-clause-added
returns-clause-added c = λ s h. added-request s (ahead_of c.args.self.now) _ c.in-Ok.id c.args.caller c.args.kind c.args.pattern c.args.deadline c.args.renewer h c.in-Ok.ensures.id refl refl c.in-Ok.ensures.minted refl c.in_ok-reserve.ensures.ahead refl c.in_ok-rest.ensures.still.ahead
