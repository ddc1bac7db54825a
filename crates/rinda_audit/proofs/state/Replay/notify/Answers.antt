use Rattle.std.proofs.Common.{ap}
use Rattle.rinda_rules.specs.declared.plain.Notifier.{Notifier}
use Rattle.rinda_audit.proofs.Counting.{counted_where_new}
use Rattle.rinda_audit.proofs.state.Replay.notify.Goals as goal

pub invariant_of-self-2 : goal.invariant_of-self-2
invariant_of-self-2 c =
    counted_where_new _ _ _ _ _ c.in_ok-push.ensures.items (ap (λ (n : Notifier). n.id) c.in_ok-n.ensures) (ap (λ (n : Notifier). n.popped) c.in_ok-n.ensures) c.self.invariant
