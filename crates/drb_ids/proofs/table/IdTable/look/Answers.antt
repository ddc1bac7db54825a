use Rattle.std.proofs.Common.{◌∙◌, Some, ap, sym, true, false}
use Rattle.drb_ids.proofs.Reviving.{looked-live, looked-over, looked-none}
use Rattle.drb_ids.proofs.table.IdTable.look.Goals as goal

pub returns-in-Some-Live : goal.returns-in-Some-Live
returns-in-Some-Live c = rw (← c.self.view_is) (looked-live c.self.inside.given c.args.id c.self.inside.objects.entries c.self.inside.ended.items _ c.self.invariant.0.standings (sym c.standing_of.ensures ∙ c.in-Some-Live.is ∙ ap Some c.in-Some-Live.field-0-is))

pub returns-then-is_over : goal.returns-then-is_over
returns-then-is_over c = rw (← c.self.view_is) (looked-over c.self.inside.given c.args.id c.self.inside.objects.entries c.self.inside.ended.items _ _ true c.self.invariant.0.standings c.self.invariant.0.minted (sym c.standing_of.ensures ∙ c.in-Some-Ended.is ∙ ap Some c.in-Some-Ended.field-0-is) (sym c.is_over.ensures ∙ c.if-is_over.true))

pub returns-else-is_over : goal.returns-else-is_over
returns-else-is_over c = rw (← c.self.view_is) (looked-over c.self.inside.given c.args.id c.self.inside.objects.entries c.self.inside.ended.items _ _ false c.self.invariant.0.standings c.self.invariant.0.minted (sym c.standing_of.ensures ∙ c.in-Some-Ended.is ∙ ap Some c.in-Some-Ended.field-0-is) (sym c.is_over.ensures ∙ c.if-is_over.false))

pub returns-in-None : goal.returns-in-None
returns-in-None c = c.unknown.ensures ∙ rw (← c.self.view_is) (looked-none c.self.inside.given c.args.id c.self.inside.objects.entries c.self.inside.ended.items c.self.invariant.0.standings (sym c.standing_of.ensures ∙ c.in-None.is))
