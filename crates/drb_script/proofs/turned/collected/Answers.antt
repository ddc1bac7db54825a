use Rattle.std.proofs.Common.{◌∙◌, sym}
use Rattle.drb_script.proofs.Steps.{leaves_again, collects_now}
use Rattle.drb_script.proofs.turned.collected.Goals as goal

pub returns-then-waits_on-clause-leaves : goal.returns-then-waits_on-clause-leaves
returns-then-waits_on-clause-leaves c =
    leaves_again c.args.patience c.args.id c.args.port c.args.out
    (sym c.waits_on.ensures ∙ c.if-waits_on.true)

pub returns-else-waits_on-clause-leaves : goal.returns-else-waits_on-clause-leaves
returns-else-waits_on-clause-leaves c answers = c.answered.ensures.leaves c.args.patience answers
    ∙ collects_now c.args.patience c.args.id c.args.port c.args.out
    (sym c.waits_on.ensures ∙ c.if-waits_on.false) answers
