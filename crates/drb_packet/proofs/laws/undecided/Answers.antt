use Rattle.drb_packet.proofs.Opening.{requests_undecided, replies_undecided}
use Rattle.drb_packet.proofs.laws.undecided.Goals as goal

pub returns : goal.returns
returns c = record { requests = requests_undecided; replies = replies_undecided }
