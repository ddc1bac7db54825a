use Rattle.rinda_notify.proofs.Gone.{below-all, left-new, there-still}
use Rattle.rinda_notify.proofs.Undone.{undone-started}
use Rattle.rinda_notify.proofs.notes.Notes.start.Goals as goal

pub put-requires : goal.put-requires
put-requires c = below-all c.args.note.id c.self.inside.gone.items c.self.inside.rows _ (rw (← c.self.view_is) at c.requires.above_list) c.self.invariant (rw (← c.self.view_is) at c.requires.above)

pub invariant_of-self-2 : goal.invariant_of-self-2
invariant_of-self-2 c = rw (c.push_reserved.ensures.items, c.reserve.ensures.items, c.in_ok-put.ensures.ok) (there-still c.self.inside.gone.items _ _ (undone-started c.self.inside.steps.items c.args.note c.self.inside.rows (below-all c.args.note.id c.self.inside.gone.items c.self.inside.rows _ (rw (← c.self.view_is) at c.requires.above_list) c.self.invariant (rw (← c.self.view_is) at c.requires.above))) c.self.invariant)

pub returns-clause-ahead : goal.returns-clause-ahead
returns-clause-ahead c = rw (← c.self.view_is, c.in_ok-put.ensures.ok) (left-new c.self.inside.gone.items c.self.inside.rows c.args.note _ (rw (← c.self.view_is) at c.requires.above_list) c.self.invariant)

pub returns-clause-list : goal.returns-clause-list
returns-clause-list c = rw (← c.self.view_is, c.push_reserved.ensures.items, c.reserve.ensures.items, c.in_ok-put.ensures.ok) (undone-started c.self.inside.steps.items c.args.note c.self.inside.rows (below-all c.args.note.id c.self.inside.gone.items c.self.inside.rows _ (rw (← c.self.view_is) at c.requires.above_list) c.self.invariant (rw (← c.self.view_is) at c.requires.above)))
