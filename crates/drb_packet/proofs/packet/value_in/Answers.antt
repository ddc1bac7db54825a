use Rattle.std.proofs.Common.{ap, ◌∙◌}
use Rattle.std.specs.Prelude.{Err}
use Rattle.drb_packet.proofs.Leaves.{dumped_value, dumped_refusal}
use Rattle.drb_packet.proofs.packet.value_in.Goals as goal

pub returns-in-Ok : goal.returns-in-Ok
returns-in-Ok c = dumped_value c.args.body.now c.in-Ok.value c.in-Ok.field-0-1 c.in-Ok.ensures.dump

pub returns-in-Err-Refused : goal.returns-in-Err-Refused
returns-in-Err-Refused c = dumped_refusal c.args.body.now c.in-Err-Refused.refusal (c.read_dump.ensures.refusal c.in-Err-Refused.refusal (c.in-Err-Refused.is ∙ ap Err c.in-Err-Refused.field-0-is))
