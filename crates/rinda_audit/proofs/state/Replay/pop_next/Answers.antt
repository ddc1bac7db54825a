use Rattle.std.proofs.Common.{length, arith}
use Rattle.rinda_audit.proofs.Counting.{counted_where_popped, room_to_pop}
use Rattle.rinda_audit.proofs.state.Replay.pop_next.Goals as goal

pub popped_notifiers-requires : goal.popped_notifiers-requires
popped_notifiers-requires c =
    rw c.as_slice-rows.ensures.value (room_to_pop _ (length c.self.inside.events.items) _ (omega arith) c.self.invariant.within)

pub invariant_of-self : goal.invariant_of-self
invariant_of-self c =
    counted_where_popped _ c.args.n.now _ _ _ _ c.as_slice-rows.ensures.value c.in_ok-popped.ensures (rw (← c.self.view_is) at c.requires.listed) (rw (← c.self.view_is) at c.requires.left) c.self.invariant
