use Rattle.std.proofs.Common.{◌∙◌, sym, refl, ap}
use Rattle.std.specs.Option.{option_copied_mut}
use Rattle.rinda_wait.specs.Waiting.{leased, renewer_or}
use Rattle.rinda_wait.proofs.Listed.{Written, lookup-row, written, unwritten}
use Rattle.rinda_wait.proofs.table.Table.lease.Goals as goal
use Rattle.rinda_wait.proofs.table.Table.lease.Goals.{in-Some, in-None, Joined-get_mut}

result : (c : Joined-get_mut) → Written c.args.id (leased c.args.deadline c.args.renewer c.args.doubt) c.self.inside.map.entries c.match-get_mut.self-inside.map.entries
result c = elim c.match-get_mut.branch [
  | in-Some w ↦ rw (w.self-inside-is, w.replace.ensures.after) (written c.args.id (leased c.args.deadline c.args.renewer c.args.doubt) c.self.inside.map.entries _ w.in-Some.row.now (λ t. refl) c.self.invariant (sym c.get_mut.ensures.value ∙ ap option_copied_mut w.in-Some.is) ((c.get_mut.follows.holds ((leased c.args.deadline c.args.renewer c.args.doubt) w.in-Some.row.now)).0))
  | in-None w ↦ rw w.self-inside-is (unwritten c.args.id (leased c.args.deadline c.args.renewer c.args.doubt) c.self.inside.map.entries _ c.self.invariant (sym c.get_mut.ensures.value ∙ ap option_copied_mut w.in-None.is) (ap (λ m. m.entries) c.get_mut.follows.holds-at-none))
]

pub invariant_of-self : goal.invariant_of-self
invariant_of-self c = (result c).table

pub returns-clause-list : goal.returns-clause-list
returns-clause-list c = rw (← c.self.view_is) (result c).values

pub returns-clause-before : goal.returns-clause-before
returns-clause-before c = rw (← c.self.view_is, ← lookup-row c.args.id c.self.inside.map.entries c.self.invariant.keyed, ← c.get_mut.ensures.value) (elim c.match-get_mut.branch [
  | in-Some w ↦ w.result-is ∙ w.replace.ensures.value ∙ sym (ap (λ o. renewer_or c.args.renewer (option_copied_mut o)) w.in-Some.is)
  | in-None w ↦ w.result-is ∙ sym (ap (λ o. renewer_or c.args.renewer (option_copied_mut o)) w.in-None.is)
])
