use Rattle.drb_session.proofs.Joining.{cleared_none}
use Rattle.drb_session.proofs.clearing.clear.Goals as goal

pub returns-in_default-clause-cleared : goal.returns-in_default-clause-cleared
returns-in_default-clause-cleared g c = cleared_none _ _ _
