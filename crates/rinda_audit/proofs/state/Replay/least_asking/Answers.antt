use Rattle.rinda_audit.proofs.Asks.{least_found}
use Rattle.rinda_audit.proofs.state.Replay.least_asking.Goals as goal

pub returns : goal.returns
returns c =
    rw (← c.self.view_is, ← c.as_slice-tuples.ensures.value, ← c.as_slice-requests.ensures.value, ← c.as_slice-notifiers.ensures.value)
    (least_found c.least_tuple.result _ _ _ _ _ c.in_ok-of_notifiers.ensures c.in_ok-of_both.ensures c.least_tuple.ensures)
