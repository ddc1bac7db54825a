use Rattle.drb_back.proofs.Adding as adding
use Rattle.drb_back.proofs.laws.appends.Goals as goal

pub returns : goal.returns
returns c = adding.appends
