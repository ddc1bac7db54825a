use Rattle.std.proofs.Common.{◌∙◌, sym}
use Rattle.drb_script.proofs.Steps.{hears_again, hears_now}
use Rattle.drb_script.proofs.turned.hear_or_again.Goals as goal

pub returns-then-waits_on-clause-leaves : goal.returns-then-waits_on-clause-leaves
returns-then-waits_on-clause-leaves c answers = c.round.ensures.leaves answers
    ∙ hears_again c.args.patience c.args.id c.args.block c.args.first c.args.out
    (sym c.waits_on.ensures ∙ c.if-waits_on.true) answers

pub returns-else-waits_on-clause-leaves : goal.returns-else-waits_on-clause-leaves
returns-else-waits_on-clause-leaves c answers = c.heard.ensures.leaves answers
    ∙ hears_now c.args.patience c.args.id c.args.block c.args.first c.args.out
    (sym c.waits_on.ensures ∙ c.if-waits_on.false) answers
