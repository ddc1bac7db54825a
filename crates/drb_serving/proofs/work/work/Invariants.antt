use Rattle.drb_shared.specs.Sharing.{IsReady}
use Rattle.drb_serving.proofs.work.work.Given as goal

abbrev pub invariant-loop : goal.invariant-loop
invariant-loop g l = IsReady l.monitor l.pass
