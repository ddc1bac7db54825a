use Rattle.std.proofs.Common.{rules}
use Rattle.drb_ids.specs.declared.object.Standing.TheVariants.{Live}
use Rattle.drb_ids.proofs.TableLemmas.{table-minted, room-minted, live_of-minted}
use Rattle.drb_ids.proofs.Reviving.{minted-stood}
use Rattle.drb_ids.proofs.table.IdTable.mint.Goals as goal

pub invariant_of-self-in-Ok : goal.invariant_of-self-in-Ok
invariant_of-self-in-Ok c =
    let t = c.self.inside in
    rw (c.in-Ok.ensures.entries, c.in_ok-make_room.ensures.ended) (
      table-minted t.fresh t.more t.given t.objects.entries t.ended.items c.args.kind c.self.invariant.0,
      room-minted t.given t.objects.entries (Live c.args.kind) _ c.self.invariant.0.minted c.in_ok-make_room.ensures.room,
    )

pub returns-in-Ok-clause-minted : goal.returns-in-Ok-clause-minted
returns-in-Ok-clause-minted c = rw (← c.self.view_is, c.in-Ok.ensures.entries, c.in_ok-make_room.ensures.ended, live_of-minted c.self.inside.given c.self.inside.objects.entries c.args.kind c.self.invariant.0.minted) (search rules)

pub returns-in-Ok-clause-list : goal.returns-in-Ok-clause-list
returns-in-Ok-clause-list c = rw (← c.self.view_is, c.in-Ok.ensures.entries, c.in_ok-make_room.ensures.ended) (minted-stood c.self.inside.fresh c.self.inside.more c.self.inside.given c.self.inside.objects.entries c.self.inside.ended.items c.args.kind (rw (← c.self.view_is) at c.requires.once) c.self.invariant.0.minted)
