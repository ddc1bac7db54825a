use Rattle.std.proofs.Common.{◌≡◌, map, take}
use Rattle.rinda_rules.specs.Cases.{shut_request}
use Rattle.rinda_audit.proofs.shutting.shut_requests.Given as goal

-- the requests so far
abbrev pub invariant-loop-row : goal.invariant-loop-row
invariant-loop-row l = l.all.items ≡ map shut_request (take l.row-index l.rows)
