use Rattle.std.proofs.Common.{◌∙◌, sym, refl, ap}
use Rattle.std.specs.Prelude.{is_some}
use Rattle.rinda_notify.specs.Notes.{advanced}
use Rattle.rinda_notify.proofs.Gone.{first-was, given-same, left-changed, there-still}
use Rattle.rinda_notify.proofs.Undone.{undone-popped}
use Rattle.rinda_notify.proofs.notes.Notes.take_first.Goals as goal

pub unwrap-event-requires : goal.unwrap-event-requires
unwrap-event-requires c = ap is_some (c.pop.ensures.first ∙ first-was c.self.inside.gone.items c.args.id c.self.inside.rows c.args.copy (rw (← c.self.view_is) at c.requires.first))

pub invariant_of-self-2 : goal.invariant_of-self-2
invariant_of-self-2 c = rw (c.push_reserved.ensures.items, c.reserve.ensures.items, c.pop.ensures.rest) (there-still c.self.inside.gone.items _ _ (undone-popped c.self.inside.steps.items c.args.id c.args.copy c.self.inside.rows c.pop.ensures.rising (first-was c.self.inside.gone.items c.args.id c.self.inside.rows c.args.copy (rw (← c.self.view_is) at c.requires.first))) c.self.invariant)

pub returns-clause-answer : goal.returns-clause-answer
returns-clause-answer c = given-same _ _ (sym c.unwrap-event.ensures ∙ c.pop.ensures.first ∙ first-was c.self.inside.gone.items c.args.id c.self.inside.rows c.args.copy (rw (← c.self.view_is) at c.requires.first))

pub returns-clause-ahead : goal.returns-clause-ahead
returns-clause-ahead c = rw (← c.self.view_is, c.pop.ensures.rest) (left-changed c.self.inside.gone.items c.args.id advanced c.self.inside.rows (λ n. refl))

pub returns-clause-list : goal.returns-clause-list
returns-clause-list c = rw (← c.self.view_is, c.push_reserved.ensures.items, c.reserve.ensures.items, c.pop.ensures.rest) (undone-popped c.self.inside.steps.items c.args.id c.args.copy c.self.inside.rows c.pop.ensures.rising (first-was c.self.inside.gone.items c.args.id c.self.inside.rows c.args.copy (rw (← c.self.view_is) at c.requires.first)))
