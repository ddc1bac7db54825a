use Rattle.rinda_audit.proofs.Counting.{counted_where_shut}
use Rattle.rinda_audit.proofs.state.Replay.shut_down.Goals as goal

pub invariant_of-self : goal.invariant_of-self
invariant_of-self c = counted_where_shut _ _ _ _ _ _ c.as_slice-all_notifiers.ensures.value c.in_ok-notifiers.ensures c.self.invariant
