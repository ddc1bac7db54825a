use Rattle.drb_packet.proofs.Ending.{requests_end, replies_end}
use Rattle.drb_packet.proofs.laws.ends_at_end.Goals as goal

pub returns : goal.returns
returns c = record { requests = requests_end; replies = replies_end }
