use Rattle.drb_session.proofs.Joining.{made_turn, made_none, tries_glanced, made_halt}
use Rattle.drb_session.proofs.making.glimpse.Goals as goal

pub returns-in-Ok-Done-clause-looks : goal.returns-in-Ok-Done-clause-looks
returns-in-Ok-Done-clause-looks g c = let t = rw c.in-Ok-Done.field-0-is at c.in-Ok-Done.ensures.tries in made_turn _ _ _ _ _ _ _ c.now-at.ensures t

pub returns-in-Ok-Nothing-clause-looks : goal.returns-in-Ok-Nothing-clause-looks
returns-in-Ok-Nothing-clause-looks g c =
    let t = rw c.in-Ok-Nothing.field-0-is at c.in-Ok-Nothing.ensures.tries in
    (made_none _ _ _ _ _ c.now-at.ensures t.sees, tries_glanced _ _ _ _ _ _ c.glance_of-glance.ensures c.in-Ok-Nothing.ensures.lawful t)

pub returns-in-Err-clause-looks : goal.returns-in-Err-clause-looks
returns-in-Err-clause-looks g c = made_halt _ _ _ _ _ _ _ _ c.halt_of.ensures c.now-at.ensures c.in-Err.ensures.tries

pub returns-in-Ok-Nothing-clause-glimpses : goal.returns-in-Ok-Nothing-clause-glimpses
returns-in-Ok-Nothing-clause-glimpses g c =
    let t = rw c.in-Ok-Nothing.field-0-is at c.in-Ok-Nothing.ensures.tries in
    (c.now-at.result, t.nothing)
