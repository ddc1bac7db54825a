use Rattle.packet_show.specs.Shown.{limits}
use Rattle.packet_show.proofs.Leavings.{end_request_again}
use Rattle.packet_show.proofs.again.request_again.Goals as goal

pub returns-in-Ok-End-clause-written : goal.returns-in-Ok-End-clause-written
returns-in-Ok-End-clause-written c = end_request_again limits c.read_request.result c.in-Ok-End.field-0 c.args.source.now.bytes c.read_request.new.source.bytes c.in-Ok-End.is c.in-Ok-End.field-0-is c.read_request.ensures.source.bytes
