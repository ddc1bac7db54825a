use Rattle.std.proofs.Common.{sym, ◌∙◌}
use Rattle.rinda_audit.proofs.Counting.{left_to_pop}
use Rattle.rinda_audit.proofs.state.Replay.pop_notifier.Goals as goal

pub pop_first-requires-clause-left : goal.pop_first-requires-clause-left
pop_first-requires-clause-left c =
    rw (← c.self.view_is, ← c.as_slice.ensures.value) (left_to_pop c.args.n.now c.as_slice.result.now c.in-Some.event (sym c.in-Some.is ∙ c.in_ok-event.ensures))
