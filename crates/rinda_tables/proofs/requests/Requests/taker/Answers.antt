use Rattle.std.proofs.Common.{◌∙◌}
use Rattle.rinda_tables.proofs.Asked.{taker-ahead}
use Rattle.rinda_tables.proofs.requests.Requests.taker.Goals as goal

pub returns : goal.returns
returns c = rw (← c.self.view_is) (c.taker.ensures ∙ taker-ahead c.self.inside.gone.items c.args.tuple.now c.self.inside.waits c.self.invariant.hidden)
