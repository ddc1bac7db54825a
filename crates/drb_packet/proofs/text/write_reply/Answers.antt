use Rattle.drb_packet.proofs.Texts.{reply_is, long_result, error_is}
use Rattle.drb_packet.proofs.text.write_reply.Goals as goal

pub returns-in-Ok-clause-written : goal.returns-in-Ok-clause-written
returns-in-Ok-clause-written c = reply_is c.args.ok c.args.v.now _ _ c.in-Ok.ensures

pub returns-in-Ok-clause-within : goal.returns-in-Ok-clause-within
returns-in-Ok-clause-within c = c.in-Ok.ensures.1.1.0

pub returns-in-Err-clause-too_long : goal.returns-in-Err-clause-too_long
returns-in-Err-clause-too_long c = λ h. long_result c.args.ok c.args.v.now (c.in-Err.ensures.1 (error_is _ _ h))
