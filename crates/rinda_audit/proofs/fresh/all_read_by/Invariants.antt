use Rattle.std.proofs.Common.{◌≡◌, map, take}
use Rattle.rinda_rules.specs.Cases.{read_by}
use Rattle.rinda_audit.proofs.fresh.all_read_by.Given as goal

-- the requests so far
abbrev pub invariant-loop-r : goal.invariant-loop-r
invariant-loop-r l = l.all.items ≡ map (read_by l.value) (take l.r-index l.requests)
