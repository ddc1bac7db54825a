use Rattle.std.proofs.Common.{ap, Err}
use Rattle.marshal_read.specs.declared.error.ReadError.{ReadError}
use Rattle.rinda_journal.proofs.Streams.{dump_found, dump_refused}
use Rattle.rinda_journal.proofs.packet_at.dump_at.Goals as goal

pub returns-in-Ok : goal.returns-in-Ok
returns-in-Ok c = dump_found c.args.bytes.now c.in-Ok.size c.in-Ok.value c.in-Ok.ensures.dump.1

pub returns-in-Err-Refused : goal.returns-in-Err-Refused
returns-in-Err-Refused c = dump_refused c.args.bytes.now c.in-Err-Refused.field-0-0 (c.in-Err-Refused.ensures.refusal c.in-Err-Refused.field-0-0 (ap (λ (e : ReadError). Err e) c.in-Err-Refused.field-0-is))
