use Rattle.drb_serving.proofs.Readings.{not_fewer_stepped}
use Rattle.drb_serving.proofs.keeping.step.Goals as goal

pub returns-clause-clock : goal.returns-clause-clock
returns-clause-clock g c = not_fewer_stepped _ _ _ _ _ _ _ c.step.ensures.steps
