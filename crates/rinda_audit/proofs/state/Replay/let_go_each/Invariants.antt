use Rattle.std.proofs.Common.{◌≡◌, drop}
use Rattle.rinda_rules.specs.Reopened.{all_let_go}
use Rattle.rinda_audit.proofs.state.Replay.let_go_each.Given as goal

-- the tuples that are left do from here what all did from the start
abbrev pub invariant-loop-t : goal.invariant-loop-t
invariant-loop-t l = all_let_go (drop l.t-index l.rows) l.self ≡ all_let_go l.rows l.fn.self
