use Rattle.std.proofs.Common.{List, refl, sym, ap, ◌∙◌, subst}
use Rattle.marshal_read.specs.declared.steps.Step.{Step}
use Rattle.marshal_read.specs.Making.{Made, last, after_all, AllApply}
use Rattle.marshal_read.proofs.Making.{next_step, past_last}
use Rattle.marshal_read.proofs.build.built.Goals as goal

pub loop-step-init : goal.loop-step-init
loop-step-init c = rw c.new-parts.ensures (record { apply = c.requires; same = refl })

pub take-requires : goal.take-requires
take-requires c =
    let d = next_step c.args.steps.now c.loop-step.step-index c.step-item.result c.loop-step-test.true c.step-item.is in
    (subst (λ (ss : List Step). AllApply c.loop-step.parts ss) d c.loop-step.invariant.apply).0

pub loop-step-preserved : goal.loop-step-preserved
loop-step-preserved c =
    let d = next_step c.args.steps.now c.loop-step.step-index c.step-item.result c.loop-step-test.true c.step-item.is in
    rw c.in_ok-take.ensures (record {
      apply = (subst (λ (ss : List Step). AllApply c.loop-step.parts ss) d c.loop-step.invariant.apply).1;
      same = sym (ap (after_all c.loop-step.parts) d) ∙ c.loop-step.invariant.same;
    })

pub returns : goal.returns
returns c =
    c.value.ensures
    ∙ ap (λ (m : Made). last m.values) (sym (past_last c.loop-step.parts c.args.steps.now c.loop-step.step-index c.loop-step-test.false) ∙ c.loop-step.invariant.same)
