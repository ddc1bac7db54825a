use Rattle.std.proofs.Common.{arith, refl, ap, Some, ◌∙◌}
use Rattle.drb_outside.specs.Telling.{rose_in}
use Rattle.drb_session.proofs.Wholes.{going_none, going_on, ends_on}
use Rattle.drb_session.proofs.Completing.{completes}
use Rattle.drb_session.proofs.serving.serve_session.Goals as goal

pub loop-end-init : goal.loop-end-init
loop-end-init g c = record { going = going_none _ _ _; lawful = λ h. h; held = refl; input_holds = refl; output_holds = refl }

pub returns-in-Some-clause-session : goal.returns-in-Some-clause-session
returns-in-Some-clause-session g c = ends_on _ _ _ _ _ _ c.loop-end.invariant.going c.in-Some.ensures.serves

pub loop-end-preserved : goal.loop-end-preserved
loop-end-preserved g c = record {
  going = going_on _ _ _ _ _ c.loop-end.invariant.going (rw c.in_default.is at c.serve_one.ensures.serves);
  lawful = λ h. c.serve_one.ensures.lawful (c.loop-end.invariant.lawful h);
  held = c.serve_one.ensures.held ∙ c.loop-end.invariant.held;
  input_holds = c.serve_one.ensures.input_holds ∙ c.loop-end.invariant.input_holds;
  output_holds = c.serve_one.ensures.output_holds ∙ c.loop-end.invariant.output_holds;
}

pub returns-in-Some-clause-complete : goal.returns-in-Some-clause-complete
returns-in-Some-clause-complete g c = λ w f k.
    let later = c.loop-end.invariant.going.goes.later in
    completes c.args.place.now c.args.patience c.in-Some.end _ _
    (ends_on _ _ _ _ _ _ c.loop-end.invariant.going c.in-Some.ensures.serves)
    (λ e. rose_in _ _ _ _ later.read (omega arith) (c.in-Some.ensures.in_fault (ap (λ q. Some q) e)))
    (λ e. rose_in _ _ _ _ later.write (omega arith) (c.in-Some.ensures.out_fault (ap (λ q. Some q) e)))
    w f k
