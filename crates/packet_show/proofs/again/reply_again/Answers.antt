use Rattle.packet_show.specs.Shown.{limits}
use Rattle.packet_show.proofs.Called.{long_reply}
use Rattle.packet_show.proofs.Leavings.{end_reply_again}
use Rattle.packet_show.proofs.again.reply_again.Goals as goal

pub returns-in-Ok-End-clause-written : goal.returns-in-Ok-End-clause-written
returns-in-Ok-End-clause-written c = end_reply_again limits c.read_reply.result c.in-Ok-End.field-0 c.args.source.now.bytes c.read_reply.new.source.bytes c.in-Ok-End.is c.in-Ok-End.field-0-is c.read_reply.ensures.source.bytes

pub returns-in-Ok-Reply-clause-too_long : goal.returns-in-Ok-Reply-clause-too_long
returns-in-Ok-Reply-clause-too_long c = λ h. long_reply limits c.read_reply.result c.in-Ok-Reply.field-0 _ c.in-Ok-Reply.success _ c.in-Ok-Reply.value c.args.source.now.bytes c.read_reply.new.source.bytes c.in-Ok-Reply.is c.in-Ok-Reply.field-0-is (cc) (cc) c.read_reply.ensures.source.bytes (c.reply_text-text.ensures.too_long h)
