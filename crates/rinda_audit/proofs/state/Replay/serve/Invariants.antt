use Rattle.std.proofs.Common.{◌≡◌, drop}
use Rattle.rinda_rules.specs.Fixed.{served_all, picks_serve}
use Rattle.rinda_audit.proofs.state.Replay.serve.Given as goal

-- the picks that are left do from here what all did from the start
abbrev pub invariant-loop-pick : goal.invariant-loop-pick
invariant-loop-pick l = record {
  fits : picks_serve l.self (drop l.pick-index l.picks) ≡ picks_serve l.fn.self l.picks;
  after : served_all l.self (drop l.pick-index l.picks) ≡ served_all l.fn.self l.picks;
}
