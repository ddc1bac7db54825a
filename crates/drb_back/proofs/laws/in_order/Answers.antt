use Rattle.drb_back.proofs.Adding as adding
use Rattle.drb_back.proofs.laws.in_order.Goals as goal

pub returns : goal.returns
returns c = adding.in_order
