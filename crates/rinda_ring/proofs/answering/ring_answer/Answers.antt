use Rattle.rinda_ring.proofs.Ringing.{answers_replied, answers_halted, answers_none}
use Rattle.rinda_ring.proofs.answering.ring_answer.Goals as goal

pub returns-in-Ok-run-clause-answers : goal.returns-in-Ok-run-clause-answers
returns-in-Ok-run-clause-answers g c = answers_replied c.args.place.now c.args.patience c.in-Ok.call _ _ _ _ _ _ _ c.in-Ok-run.reply _ c.in-Ok.ensures c.in-Ok-run.ensures.runs c.end_taken.ensures.ends

pub returns-in-Err-clause-answers : goal.returns-in-Err-clause-answers
returns-in-Err-clause-answers g c = answers_halted c.args.place.now c.args.patience c.in-Ok.call _ _ c.in-Err.halt _ c.in-Ok.ensures c.end_halted.ensures c.in-Err.ensures.runs

pub returns-in_default-clause-answers : goal.returns-in_default-clause-answers
returns-in_default-clause-answers g c = answers_none c.args.place.now c.args.patience _
