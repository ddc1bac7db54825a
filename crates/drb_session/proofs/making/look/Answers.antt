use Rattle.drb_session.proofs.Joining.{made_turn, made_none_waited, tries_glanced, made_none, made_halt}
use Rattle.drb_session.proofs.making.look.Goals as goal

pub returns-in-Ok-Done-clause-looks : goal.returns-in-Ok-Done-clause-looks
returns-in-Ok-Done-clause-looks g c = let t = rw c.in-Ok-Done.field-0-is at c.in-Ok-Done.ensures.tries in made_turn _ _ _ _ _ _ _ c.now-at.ensures t

pub returns-in-Never-clause-looks : goal.returns-in-Never-clause-looks
returns-in-Never-clause-looks g c =
    let t = rw c.in-Ok-Nothing.field-0-is at c.in-Ok-Nothing.ensures.tries in
    made_none _ _ _ _ _ c.now-at.ensures t.sees

pub returns-in-Wait-clause-looks : goal.returns-in-Wait-clause-looks
returns-in-Wait-clause-looks g c =
    let t = rw c.in-Ok-Nothing.field-0-is at c.in-Ok-Nothing.ensures.tries in
    (made_none_waited _ _ _ _ _ _ c.now-at.ensures t.sees c.wait_past.ensures.same, tries_glanced _ _ _ _ _ _ c.glance_of-glance.ensures c.in-Ok-Nothing.ensures.lawful t)

pub returns-in-Wait-clause-lawful : goal.returns-in-Wait-clause-lawful
returns-in-Wait-clause-lawful g c = c.wait_past.ensures.lawful c.in-Ok-Nothing.ensures.lawful

pub returns-in-Err-clause-looks : goal.returns-in-Err-clause-looks
returns-in-Err-clause-looks g c = made_halt _ _ _ _ _ _ _ _ c.halt_of.ensures c.now-at.ensures c.in-Err.ensures.tries
