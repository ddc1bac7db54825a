use Rattle.rinda_audit.proofs.Counting.{listed}
use Rattle.rinda_audit.proofs.state.Replay.withdraw_at.Goals as goal

pub withdraw-out-requires : goal.withdraw-out-requires
withdraw-out-requires c = listed c.args.self.now c.args.id _ c.in_ok-found.ensures
