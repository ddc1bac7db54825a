use Rattle.rinda_tables.proofs.Asked.{readers-ahead}
use Rattle.rinda_tables.proofs.requests.Requests.readers.Goals as goal

pub returns : goal.returns
returns c = rw (← c.self.view_is, ← readers-ahead c.self.inside.gone.items c.args.tuple.now c.self.inside.waits c.self.invariant.hidden) c.readers.ensures
