use Rattle.std.proofs.Common.{false, refl, sym, ◌∙◌}
use Rattle.drb_session.proofs.Wholes.{answers_none, answers_raise}
use Rattle.drb_session.proofs.answering.answer.Goals as goal

pub returns-in_default-clause-answers : goal.returns-in_default-clause-answers
returns-in_default-clause-answers g c = answers_none _ _ _ _ _

pub returns-in-Ok-Raise-clause-answers : goal.returns-in-Ok-Raise-clause-answers
returns-in-Ok-Raise-clause-answers g c = answers_raise _ _ _ _ _ (false, c.in-Ok-Raise.exception) (sym c.in-Ok-Raise.ensures.planned ∙ c.in-Ok-Raise.field-0-is) refl

pub returns-clause-answers : goal.returns-clause-answers
returns-clause-answers g c = answers_none _ _ _ _ _
