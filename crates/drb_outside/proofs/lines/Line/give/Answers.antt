use Rattle.std.specs.Prelude.{Some}
use Rattle.drb_outside.specs.Calls.{peer}
use Rattle.drb_outside.proofs.Dialing.{receives, receives_none}
use Rattle.drb_outside.proofs.lines.Line.give.Goals as goal

pub returns-in-Made-clause-received : goal.returns-in-Made-clause-received
returns-in-Made-clause-received c = rw c.in-Made.is (receives (Some (peer c.args.self.now.host.items c.args.self.now.port)) c.args.self.now.takes.items c.args.self.now.gives.items c.args.self.now.received c.give-count.result)
