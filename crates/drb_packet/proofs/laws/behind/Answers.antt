use Rattle.drb_packet.proofs.Keeping.{requests_behind, replies_behind}
use Rattle.drb_packet.proofs.laws.behind.Goals as goal

pub returns : goal.returns
returns c = record { requests = requests_behind; replies = replies_behind }
