use Rattle.std.proofs.Common.{◌≡◌, drop}
use Rattle.marshal_read.specs.Making.{after_all, AllApply, made}
use Rattle.marshal_read.proofs.build.built.Given as goal

abbrev pub invariant-loop-step : goal.invariant-loop-step
invariant-loop-step l = record {
  apply : AllApply l.parts (drop l.step-index l.steps);
  same : after_all l.parts (drop l.step-index l.steps) ≡ made l.steps;
}
