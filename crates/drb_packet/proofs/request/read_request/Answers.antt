use Rattle.std.specs.Prelude.{Ok, Err}
use Rattle.drb_packet.specs.declared.stop.Stop.TheVariants as stop
use Rattle.drb_packet.proofs.Wholes.{changes_request}
use Rattle.drb_packet.proofs.request.read_request.Goals as goal

pub returns-in-Ok-clause-source : goal.returns-in-Ok-clause-source
returns-in-Ok-clause-source g c = changes_request c.args.limits.now (Ok c.in-Ok.request) c.in-Ok.ensures.source

pub returns-in-Err-End-clause-source : goal.returns-in-Err-End-clause-source
returns-in-Err-End-clause-source g c = changes_request c.args.limits.now (Err stop.End) (rw c.in-Err-End.field-0-is at c.in-Err-End.ensures.source)

pub returns-in-Err-Refused-clause-source : goal.returns-in-Err-Refused-clause-source
returns-in-Err-Refused-clause-source g c = changes_request c.args.limits.now (Err (stop.Refused c.in-Err-Refused.why)) (rw c.in-Err-Refused.field-0-is at c.in-Err-Refused.ensures.source)

pub returns-in-Err-ReadFault-clause-source : goal.returns-in-Err-ReadFault-clause-source
returns-in-Err-ReadFault-clause-source g c = changes_request c.args.limits.now (Err stop.ReadFault) (rw c.in-Err-ReadFault.field-0-is at c.in-Err-ReadFault.ensures.source)

pub returns-in-Err-Memory-clause-source : goal.returns-in-Err-Memory-clause-source
returns-in-Err-Memory-clause-source g c = changes_request c.args.limits.now (Err stop.Memory) (rw c.in-Err-Memory.field-0-is at c.in-Err-Memory.ensures.source)
