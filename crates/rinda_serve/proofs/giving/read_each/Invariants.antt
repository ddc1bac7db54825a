use Rattle.std.proofs.Common.{◌≡◌, drop, Some}
use Rattle.rinda_rules.specs.declared.plain.Entry.{Entry}
use Rattle.rinda_rules.specs.Space.{Plain, tuple_at}
use Rattle.rinda_tables.specs.Holds.{Holds}
use Rattle.rinda_tables.specs.Tabled.{ahead_of, Stays}
use Rattle.rinda_serve.proofs.Tells.{Telling}
use Rattle.rinda_serve.proofs.giving.read_each.Given as goal

-- what held a space has told some of its requests, and those that are left still wait to read the tuple
abbrev pub invariant-loop-id : goal.invariant-loop-id
invariant-loop-id l =
    ((s : Plain) (t : Entry) → Holds s (ahead_of l.fn.tables) → tuple_at s l.tuple ≡ Some t → Telling t.value (drop l.id-index l.ids) s l.tables)
    × Stays l.fn.tables l.tables
