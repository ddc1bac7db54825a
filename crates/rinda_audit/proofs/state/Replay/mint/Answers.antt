use Rattle.rinda_audit.proofs.Counting.{counted_next}
use Rattle.rinda_audit.proofs.state.Replay.mint.Goals as goal

pub invariant_of-self : goal.invariant_of-self
invariant_of-self c = counted_next _ _ _ c.self.invariant
