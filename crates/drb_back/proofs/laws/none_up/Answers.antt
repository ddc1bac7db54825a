use Rattle.drb_back.proofs.Adding as adding
use Rattle.drb_back.proofs.laws.none_up.Goals as goal

pub returns : goal.returns
returns c = adding.none_up
