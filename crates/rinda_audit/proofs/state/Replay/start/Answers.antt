use Rattle.rinda_audit.proofs.Storing.{stands_ok}
use Rattle.rinda_audit.proofs.state.Replay.start.Goals as goal

pub returns : goal.returns
returns c = record { stands = stands_ok c.args.self.now c.stored.result c.requires c.stored.ensures }
