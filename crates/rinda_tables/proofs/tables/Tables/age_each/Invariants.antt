use Rattle.std.proofs.Common.{drop}
use Rattle.rinda_rules.specs.Space.{Plain}
use Rattle.rinda_tables.specs.Holds.{Holds}
use Rattle.rinda_tables.specs.Tabled.{ahead_of, Stays, AddsNone}
use Rattle.rinda_tables.proofs.AgingOn.{Aging}
use Rattle.rinda_tables.proofs.tables.Tables.age_each.Given as goal

-- what held a space has aged it up to the ids that are left, which are still due
abbrev pub invariant-loop-id : goal.invariant-loop-id
invariant-loop-id l =
    ((s : Plain) → Holds s (ahead_of l.fn.self) → Aging (drop l.id-index l.ids) s l.self)
    × Stays l.fn.self l.self
    × AddsNone l.fn.self l.self
