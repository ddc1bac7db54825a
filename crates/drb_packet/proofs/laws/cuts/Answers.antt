use Rattle.drb_packet.proofs.Cutting.{cuts}
use Rattle.drb_packet.proofs.laws.cuts.Goals as goal

pub returns : goal.returns
returns c = cuts
