use Rattle.drb_shared.specs.Sharing.{IsReady}
use Rattle.drb_serving.specs.Serving.{NotFewer}
use Rattle.drb_serving.proofs.keeping.keep_on.Given as goal

abbrev pub invariant-loop : goal.invariant-loop
invariant-loop g l = IsReady l.monitor l.pass × NotFewer (g.C.Clock.readings l.initial.keeping.clock) (g.C.Clock.readings l.keeping.clock)
