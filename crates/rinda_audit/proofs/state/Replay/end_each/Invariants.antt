use Rattle.std.proofs.Common.{◌≡◌, drop}
use Rattle.rinda_rules.specs.Reopened.{all_ended}
use Rattle.rinda_audit.proofs.state.Replay.end_each.Given as goal

-- the requests that are left do from here what all did from the start
abbrev pub invariant-loop-r : goal.invariant-loop-r
invariant-loop-r l = all_ended (drop l.r-index l.rows) l.self ≡ all_ended l.rows l.fn.self
