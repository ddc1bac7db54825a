use Rattle.drb_session.proofs.Wholes.{answers_lost}
use Rattle.drb_session.proofs.answering.answer_call.Goals as goal

pub returns-in-Err-answer-clause-answers : goal.returns-in-Err-answer-clause-answers
returns-in-Err-answer-clause-answers g c = answers_lost _ _ _ c.args.call _ _ c.in-Ok.reply c.in-Ok.ensures.runs
