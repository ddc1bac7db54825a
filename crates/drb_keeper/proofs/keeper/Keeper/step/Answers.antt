use Rattle.std.proofs.Common.{sym, ◌∙◌, ap, Some}
use Rattle.drb_keeper.proofs.Keeping.{steps_shut, steps_age, steps_ask, steps_settle}
use Rattle.drb_keeper.proofs.Aging.{step_ages}
use Rattle.drb_keeper.proofs.keeper.Keeper.step.Goals as goal

pub returns-in-None-clause-steps : goal.returns-in-None-clause-steps
returns-in-None-clause-steps g c = steps_shut c.args.limits.now c.args.shut _ _ _ _ _ c.if-shut.true (sym c.self.view_is ∙ sym c.take.ensures.value ∙ c.in-None.is) c.shut.ensures.goes

pub returns-in-None-clause-ages : goal.returns-in-None-clause-ages
returns-in-None-clause-ages g c = step_ages c.args.limits.now c.args.shut _ _ _ _ _ (returns-in-None-clause-steps g c) c.shut.ensures.lawful

pub returns-in-None-2-clause-steps : goal.returns-in-None-2-clause-steps
returns-in-None-2-clause-steps g c = steps_age c.args.limits.now c.args.shut _ _ _ _ _ c.if-shut.false (sym c.self.view_is ∙ sym c.take.ensures.value ∙ c.in-None-2.is) c.age.ensures.goes

pub returns-in-None-2-clause-ages : goal.returns-in-None-2-clause-ages
returns-in-None-2-clause-ages g c = step_ages c.args.limits.now c.args.shut _ _ _ _ _ (returns-in-None-2-clause-steps g c) c.age.ensures.lawful

pub returns-in-Some-Call-clause-steps : goal.returns-in-Some-Call-clause-steps
returns-in-Some-Call-clause-steps g c = steps_ask c.args.limits.now c.args.shut c.in-Some-Call.id c.in-Some-Call.renewer _ _ _ _ _ (sym c.self.view_is ∙ sym c.take.ensures.value ∙ c.in-Some-Call.is ∙ ap Some c.in-Some-Call.field-0-is) c.ask.ensures.goes

pub returns-in-Some-Call-clause-ages : goal.returns-in-Some-Call-clause-ages
returns-in-Some-Call-clause-ages g c = c.ask.ensures.ages

pub returns-in-Some-Turn-clause-steps : goal.returns-in-Some-Turn-clause-steps
returns-in-Some-Turn-clause-steps g c = steps_settle c.args.limits.now c.args.shut c.in-Some-Turn.id c.in-Some-Turn.life _ _ _ _ _ (sym c.self.view_is ∙ sym c.take.ensures.value ∙ c.in-Some-Turn.is ∙ ap Some c.in-Some-Turn.field-0-is) (c.settle.ensures.settled c.args.limits.now _ _)

pub returns-in-Some-Turn-clause-ages : goal.returns-in-Some-Turn-clause-ages
returns-in-Some-Turn-clause-ages g c = step_ages c.args.limits.now c.args.shut _ _ _ _ _ (returns-in-Some-Turn-clause-steps g c) c.settle.ensures.lawful
