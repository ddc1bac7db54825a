use Rattle.packet_show.specs.Shown.{limits}
use Rattle.packet_show.proofs.Leavings.{end_reply}
use Rattle.packet_show.proofs.seen.see_reply.Goals as goal

pub returns-in-End : goal.returns-in-End
returns-in-End c = end_reply limits c.in_ok-read_reply.field-0 c.args.source.now.bytes c.read_reply.new.source.bytes c.in-End.is c.in_ok-read_reply.ensures.source.bytes
