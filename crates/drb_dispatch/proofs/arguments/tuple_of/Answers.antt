use Rattle.std.specs.Prelude.{Err}
use Rattle.std.proofs.Common.{ap, sym, ◌∙◌}
use Rattle.drb_dispatch.proofs.Parts.{tuple_taken, tuple_refused}
use Rattle.drb_dispatch.proofs.arguments.tuple_of.Goals as goal

pub returns-in-Ok : goal.returns-in-Ok
returns-in-Ok c = sym (tuple_taken _ _ c.in-Ok.ensures.tuple)

pub returns-in-Err : goal.returns-in-Err
returns-in-Err c = ap Err c.fault_of.ensures ∙ sym (tuple_refused _ _ c.in-Err.ensures.refused)
