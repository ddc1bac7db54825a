use Rattle.std.proofs.Common.{◌∙◌, ap, sym}
use Rattle.drb_serving.proofs.Ends.{hands_back}
use Rattle.drb_serving.proofs.serve.serve_named.Goals as goal

pub returns-in-Ended : goal.returns-in-Ended
returns-in-Ended g c = (
  c.into_inner-doors.result.ended c.in-Ended.is,
  c.into_inner-doors.result.none_left c.in-Ended.is,
  rw c.into_clock-clock.ensures (hands_back _ _ _ _ _ _ _ _ (c.in-Some-close.ensures.cap_is ∙ ap (λ q. q.1) (ap (λ m. m.basis) c.in-Some.monitor-is ∙ c.in-Some.ensures.basis_is) ∙ ap (λ q. q.cap) c.new-space.ensures) (c.last_step.ensures c.if-not-last_step.false) c.run-passes.ensures.clock c.turns-turns.ensures c.tuples-tuples.ensures),
)

pub returns-in-Broken : goal.returns-in-Broken
returns-in-Broken g c = (
  c.into_inner-doors.result.broken c.in-Broken.is,
  rw c.into_clock-clock.ensures (hands_back _ _ _ _ _ _ _ _ (c.in-Some-close.ensures.cap_is ∙ ap (λ q. q.1) (ap (λ m. m.basis) c.in-Some.monitor-is ∙ c.in-Some.ensures.basis_is) ∙ ap (λ q. q.cap) c.new-space.ensures) (c.last_step.ensures c.if-not-last_step.false) c.run-passes.ensures.clock c.turns-turns.ensures c.tuples-tuples.ensures),
)
