use Rattle.packet_show.specs.Shown.{limits}
use Rattle.packet_show.proofs.Leavings.{end_request}
use Rattle.packet_show.proofs.seen.see_request.Goals as goal

pub returns-in-End : goal.returns-in-End
returns-in-End c = end_request limits c.in_ok-read_request.field-0 c.args.source.now.bytes c.read_request.new.source.bytes c.in-End.is c.in_ok-read_request.ensures.source.bytes
