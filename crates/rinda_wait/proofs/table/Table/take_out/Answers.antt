use Rattle.std.proofs.Common.{◌∙◌}
use Rattle.rinda_wait.proofs.Listed.{lookup-row, table-removed, values-remove}
use Rattle.rinda_wait.proofs.table.Table.take_out.Goals as goal

pub invariant_of-self : goal.invariant_of-self
invariant_of-self c = rw c.remove.ensures.entries (table-removed c.args.id c.self.inside.map.entries c.self.invariant)

pub returns-clause-row : goal.returns-clause-row
returns-clause-row c = c.remove.ensures.value ∙ rw (← c.self.view_is) (lookup-row c.args.id c.self.inside.map.entries c.self.invariant.keyed)

pub returns-clause-rest : goal.returns-clause-rest
returns-clause-rest c = rw (← c.self.view_is, c.remove.ensures.entries) (values-remove c.args.id c.self.inside.map.entries c.self.invariant.keyed c.self.invariant.rising)
