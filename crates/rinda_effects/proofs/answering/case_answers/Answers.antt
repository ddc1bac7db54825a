use Rattle.rinda_effects.proofs.Answered.{case_answers}
use Rattle.rinda_effects.proofs.answering.case_answers.Goals as goal

pub returns : goal.returns
returns c s caller event choice sound = case_answers s caller event choice sound.answers
