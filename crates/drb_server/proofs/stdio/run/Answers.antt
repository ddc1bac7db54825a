use Rattle.std.proofs.Common.{inr, refl}
use Rattle.drb_server.proofs.Whole.{nothing_done}
use Rattle.drb_server.proofs.stdio.run.Goals as goal

pub returns-in-Err-clause-runs : goal.returns-in-Err-clause-runs
returns-in-Err-clause-runs g c = nothing_done _ _ _

pub returns-in-Err-clause-complete : goal.returns-in-Err-clause-complete
returns-in-Err-clause-complete g c whole read write = inr (inr (inr refl))
