use Rattle.std.proofs.Common.{◌≡◌, All, true}
use Rattle.drb_shared.specs.Sharing.{IsReady}
use Rattle.drb_serving.proofs.work.split_all.Given as goal

abbrev pub invariant-loop : goal.invariant-loop
invariant-loop g l = IsReady l.monitor l.first × (l.first.first ≡ true) × All (λ p. IsReady l.monitor p) l.passes.items
