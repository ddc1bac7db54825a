use Rattle.drb_back.proofs.Asking.{asked_whole, asked_cut, ask_fault, ask_called}
use Rattle.drb_back.proofs.Lines.{line_sent}
use Rattle.drb_back.proofs.calling.ask_on.Goals as goal

pub returns-then-not-write_all-clause-calls : goal.returns-then-not-write_all-clause-calls
returns-then-not-write_all-clause-calls g c = asked_cut c.args.limits.now c.args.text.now c.write_all.result _ _ _ c.if-not-write_all.true (line_sent c.write_all.result c.args.text.now _ _ _ c.write_all.ensures.sink.bytes c.write_all.ensures.sink.stays)

pub returns-clause-calls : goal.returns-clause-calls
returns-clause-calls g c = asked_whole c.args.limits.now c.args.text.now c.read_reply-reply.result c.back_of.result c.write_all.result _ _ _ _ _ c.back_of.ensures c.if-not-write_all.false c.read_reply-reply.ensures.source.later (line_sent c.write_all.result c.args.text.now _ _ _ c.write_all.ensures.sink.bytes c.write_all.ensures.sink.stays) c.read_reply-reply.ensures.source.bytes c.read_reply-reply.ensures.source.stays

pub returns-clause-fault : goal.returns-clause-fault
returns-clause-fault g c = ask_fault c.back_of.result c.read_reply-reply.result _ _ _ c.back_of.ensures c.write_all.ensures.sink.later c.read_reply-reply.ensures.failed

pub returns-clause-called : goal.returns-clause-called
returns-clause-called g c = ask_called c.back_of.result c.read_reply-reply.result c.back_of.ensures
