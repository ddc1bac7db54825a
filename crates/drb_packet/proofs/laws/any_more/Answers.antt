use Rattle.drb_packet.proofs.Keeping.{requests_any_more, replies_any_more}
use Rattle.drb_packet.proofs.laws.any_more.Goals as goal

pub returns : goal.returns
returns c = record { requests = requests_any_more; replies = replies_any_more }
