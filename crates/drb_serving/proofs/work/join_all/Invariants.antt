use Rattle.std.proofs.Common.{◌≡◌, All, true, length}
use Rattle.drb_monitor.specs.Passes.{IsPassOf}
use Rattle.drb_shared.specs.Sharing.{IsReady}
use Rattle.drb_serving.proofs.work.join_all.Given as goal

abbrev pub invariant-loop-pass : goal.invariant-loop-pass
invariant-loop-pass g l = IsPassOf l.monitor l.first × (l.first.first ≡ true) × All (λ p. IsReady l.monitor p) l.passes.items

abbrev pub decreases-loop-pass : goal.decreases-loop-pass
decreases-loop-pass g l = length l.passes.items
