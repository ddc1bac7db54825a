use Rattle.drb_outside.proofs.Dialing.{up_at, received_at, bytes_at, some_at}
use Rattle.drb_outside.proofs.script_dialer.receive_at.Goals as goal

pub returns-clause-up : goal.returns-clause-up
returns-clause-up c = up_at c.args.lines.now c.args.last c.index-lines-last.result c.requires

pub returns-clause-received : goal.returns-clause-received
returns-clause-received c = received_at c.give.result c.args.lines.now c.args.last c.index-lines-last.result c.give.new.self c.requires c.give.ensures.received

pub returns-clause-bytes : goal.returns-clause-bytes
returns-clause-bytes c = bytes_at c.give.result c.give.new.buf c.args.lines.now c.args.last c.index-lines-last.result c.requires c.give.ensures.bytes

pub returns-clause-some : goal.returns-clause-some
returns-clause-some c = some_at c.give.result c.give.new.buf c.args.lines.now c.args.last c.index-lines-last.result c.requires c.give.ensures.some
