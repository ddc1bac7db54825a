use Rattle.rinda_audit.proofs.Counting.{counted_where_again}
use Rattle.rinda_audit.proofs.state.Replay.doubt_again.Goals as goal

pub invariant_of-self : goal.invariant_of-self
invariant_of-self c = counted_where_again _ _ _ _ _ c.as_slice-all_notifiers.ensures.value c.in_ok-notifiers.ensures c.self.invariant
