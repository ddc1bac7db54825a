use Rattle.rinda_audit.proofs.Counting.{counted_raised}
use Rattle.rinda_audit.proofs.state.Replay.raise.Goals as goal

pub invariant_of-self-2 : goal.invariant_of-self-2
invariant_of-self-2 c = counted_raised _ _ _ _ _ c.in_ok-push.ensures.items c.self.invariant
