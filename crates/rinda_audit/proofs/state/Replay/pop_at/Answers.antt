use Rattle.rinda_audit.proofs.Counting.{listed}
use Rattle.rinda_audit.proofs.state.Replay.pop_at.Goals as goal

pub pop-out-requires : goal.pop-out-requires
pop-out-requires c = listed c.args.self.now c.args.id _ c.in_ok-found.ensures
