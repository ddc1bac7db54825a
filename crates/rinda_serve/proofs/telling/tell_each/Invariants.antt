use Rattle.std.proofs.Common.{drop}
use Rattle.rinda_rules.specs.Space.{Plain}
use Rattle.rinda_tables.specs.Holds.{Holds}
use Rattle.rinda_tables.specs.Tabled.{ahead_of, Stays}
use Rattle.rinda_serve.proofs.Tells.{Telling}
use Rattle.rinda_serve.proofs.telling.tell_each.Given as goal

-- what held a space has told some of its requests, and those that are left still wait to read the value
abbrev pub invariant-loop-id : goal.invariant-loop-id
invariant-loop-id l =
    ((s : Plain) → Holds s (ahead_of l.fn.tables) → Telling l.value (drop l.id-index l.ids) s l.tables)
    × Stays l.fn.tables l.tables
