use Rattle.std.specs.Prelude.{Err}
use Rattle.std.proofs.Common.{ap, sym, ◌∙◌}
use Rattle.drb_dispatch.proofs.Parts.{template_taken, template_refused}
use Rattle.drb_dispatch.proofs.arguments.template_of.Goals as goal

pub returns-in-Ok : goal.returns-in-Ok
returns-in-Ok c = sym (template_taken _ _ c.in-Ok.ensures.template)

pub returns-in-Err : goal.returns-in-Err
returns-in-Err c = ap Err c.fault_of.ensures ∙ sym (template_refused _ _ c.in-Err.ensures.refused)
