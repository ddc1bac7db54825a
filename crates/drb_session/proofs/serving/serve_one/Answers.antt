use Rattle.drb_session.proofs.Wholes.{step_ended, step_fault, step_memory, step_refused, step_request}
use Rattle.drb_session.proofs.serving.serve_one.Goals as goal

pub returns-in-Ok-Request-clause-serves : goal.returns-in-Ok-Request-clause-serves
returns-in-Ok-Request-clause-serves g c =
    let t = rw c.in-Ok-Request.field-0-is at c.in-Ok-Request.ensures.source in
    step_request c.args.place.now c.args.patience c.in-Ok-Request.request c.serve_request.result _ _ _ _ _ _ _ _ _ _ t.later c.serve_request.ensures.later t.bytes c.serve_request.ensures.replies

pub returns-in-Ok-End-clause-serves : goal.returns-in-Ok-End-clause-serves
returns-in-Ok-End-clause-serves g c =
    let t = rw c.in-Ok-End.field-0-is at c.in-Ok-End.ensures.source in
    step_ended c.args.place.now c.args.patience _ _ _ _ _ _ _ t.later t.bytes

pub returns-in-Ok-Refused-clause-serves : goal.returns-in-Ok-Refused-clause-serves
returns-in-Ok-Refused-clause-serves g c =
    let t = rw c.in-Ok-Refused.field-0-is at c.in-Ok-Refused.ensures.source in
    step_refused c.args.place.now c.args.patience c.in-Ok-Refused.why c.refuse.result _ _ _ _ _ _ _ _ _ t.later c.refuse.ensures.later t.bytes c.refuse.ensures.refuses

pub returns-in-Err-ReadFault-clause-serves : goal.returns-in-Err-ReadFault-clause-serves
returns-in-Err-ReadFault-clause-serves g c =
    let t = rw c.in-Err-ReadFault.field-0-is at c.in-Err-ReadFault.ensures.source in
    step_fault c.args.place.now c.args.patience _ _ _ _ _ _ _ t.later t.bytes

pub returns-in-Err-Memory-clause-serves : goal.returns-in-Err-Memory-clause-serves
returns-in-Err-Memory-clause-serves g c =
    let t = rw c.in-Err-Memory.field-0-is at c.in-Err-Memory.ensures.source in
    step_memory c.args.place.now c.args.patience _ _ _ _ _ _ _ t.later t.bytes
