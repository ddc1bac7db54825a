use Rattle.rinda_audit.proofs.Counting.{counted_where_left}
use Rattle.rinda_audit.proofs.state.Replay.end_notifier.Goals as goal

pub invariant_of-self : goal.invariant_of-self
invariant_of-self c = counted_where_left _ _ _ _ _ _ c.as_slice-all.ensures.value c.in_ok-left.ensures c.self.invariant
