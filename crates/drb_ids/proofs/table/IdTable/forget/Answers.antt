use Rattle.std.proofs.Common.{◌-◌}
use Rattle.drb_ids.proofs.TableLemmas.{room-removed}
use Rattle.drb_ids.proofs.Reviving.{table-revived, table-unminted, unminted-view, same-view, few-taken}
use Rattle.drb_ids.proofs.table.IdTable.forget.Goals as goal

pub invariant_of-self : goal.invariant_of-self
invariant_of-self c =
    let t = c.self.inside in
    let r = c.revive.ensures in (
      rw (c.remove.ensures.entries, r.objects, r.ended) (table-unminted t.more t.given t.objects.entries t.ended.items (rw c.if-self.true at c.self.invariant.0) (rw (r.objects, r.ended) at r.tied)),
      rw c.remove.ensures.entries (room-removed t.given c.revive.new.objects.entries _ r.room),
    )

pub invariant_of-self-else-self : goal.invariant_of-self-else-self
invariant_of-self-else-self c =
    let t = c.self.inside in
    let r = c.revive.ensures in (
      rw (c.if-self.false, r.objects, r.ended) (table-revived t.more t.given t.objects.entries t.ended.items (rw c.if-self.false at c.self.invariant.0) (rw (r.objects, r.ended) at r.tied)),
      r.room,
    )

pub returns-then-self : goal.returns-then-self
returns-then-self c =
    let t = c.self.inside in
    let r = c.revive.ensures in
    let h = rw c.if-self.true at c.self.invariant.0 in
    rw (← c.self.view_is, c.if-self.true, c.remove.ensures.entries, r.objects, r.ended)
    (same-view (t.given - 1) _ _ _ (few-taken t.more t.ended.items h.few) (unminted-view t.more t.given t.objects.entries t.ended.items h))
