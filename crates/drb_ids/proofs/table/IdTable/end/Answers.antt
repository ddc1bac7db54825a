use Rattle.drb_ids.specs.declared.object.LiveId.{LiveId}
use Rattle.drb_ids.specs.declared.object.Standing.TheVariants.{Ended as Over}
use Rattle.drb_ids.specs.Ids.{ended_among}
use Rattle.drb_ids.specs.Standings.{ahead_of}
use Rattle.std.specs.BTreeMap.{is_at}
use Rattle.std.specs.Ordering.{nat_cmp}
use Rattle.std.proofs.Common.{Option, ap, ◌∙◌, sym, arith}
use Rattle.std.proofs.lemmas.Map.{length-set_value}
use Rattle.drb_ids.proofs.TableLemmas.{live-stands, fewer-ended, not-live}
use Rattle.drb_ids.proofs.Reviving.{table-ended, ended-stood, ended-ahead}
use Rattle.drb_ids.proofs.table.IdTable.end.Goals as goal

pub add_last-requires : goal.add_last-requires
add_last-requires c =
    let t = c.self.inside in
    omega (arith, fewer-ended c.args.id t.objects.entries t.ended.items c.in-Some.kind c.self.invariant.0.standings (live-stands c.args.id _ c.in-Some.kind (sym c.live_kind.ensures ∙ c.in-Some.is)), c.self.invariant.1)

pub invariant_of-self : goal.invariant_of-self
invariant_of-self c =
    let t = c.self.inside in (
      rw (c.set.ensures, c.add_last.ensures.ended) (table-ended t.fresh t.more t.given c.args.id t.objects.entries t.ended.items c.in-Some.kind c.args.last c.self.invariant.0 (live-stands c.args.id _ c.in-Some.kind (sym c.live_kind.ensures ∙ c.in-Some.is))),
      rw c.set.ensures (omega (arith, c.self.invariant.1, c.add_last.ensures.capacity, length-set_value (is_at (nat_cmp c.args.id)) t.objects.entries (Over c.in-Some.kind c.args.last))),
    )

pub returns-in-Some-clause-ended : goal.returns-in-Some-clause-ended
returns-in-Some-clause-ended c =
    let t = c.self.inside in
    rw (← c.self.view_is, c.set.ensures, c.add_last.ensures.ended) (ended-ahead t.given c.args.id t.objects.entries t.ended.items c.in-Some.kind c.args.last c.self.invariant.0.standings (live-stands c.args.id _ c.in-Some.kind (sym c.live_kind.ensures ∙ c.in-Some.is)))

pub returns-in-Some-clause-list : goal.returns-in-Some-clause-list
returns-in-Some-clause-list c =
    let t = c.self.inside in
    rw (← c.self.view_is, c.set.ensures, c.add_last.ensures.ended) (ended-stood t.fresh t.more t.given c.args.id t.objects.entries t.ended.items c.in-Some.kind c.args.last c.self.invariant.0 (live-stands c.args.id _ c.in-Some.kind (sym c.live_kind.ensures ∙ c.in-Some.is)))

pub returns-in_default-clause-ended : goal.returns-in_default-clause-ended
returns-in_default-clause-ended c = rw (← c.self.view_is) (sym (ap (λ (l : Option LiveId). ended_among c.args.id c.args.last (ahead_of c.self.inside.given c.self.inside.objects.entries c.self.inside.ended.items) l) (not-live c.args.id c.self.inside.objects.entries c.self.invariant.0.standings.rising (sym c.live_kind.ensures ∙ c.in_default.is))))
