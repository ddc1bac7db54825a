use Rattle.rinda_audit.proofs.Counting.{counted_where_changed}
use Rattle.rinda_audit.proofs.state.Replay.change_notifier.Goals as goal

pub invariant_of-self : goal.invariant_of-self
invariant_of-self c = counted_where_changed _ _ _ _ _ _ _ c.as_slice-rows.ensures.value c.in_ok-changed.ensures c.self.invariant
