use Rattle.drb_script.proofs.Standing.{may_stop, may_clear}
use Rattle.drb_script.proofs.laws.may_stop.Goals as goal

pub returns : goal.returns
returns c = record { stop = may_stop; clear = may_clear }
