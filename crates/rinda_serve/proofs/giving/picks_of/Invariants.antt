use Rattle.std.proofs.Common.{◌≡◌, take}
use Rattle.rinda_effects.specs.Serves.{picks_of}
use Rattle.rinda_serve.proofs.giving.picks_of.Given as goal

-- the picks of the requests so far
abbrev pub invariant-loop-request : goal.invariant-loop-request
invariant-loop-request l = l.picks.items ≡ picks_of l.tuple (take l.request-index l.requests)
