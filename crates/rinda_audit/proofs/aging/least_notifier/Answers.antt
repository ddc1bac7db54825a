use Rattle.std.proofs.Common.{arith}
use Rattle.std.proofs.lemmas.Bool.Decides.{nat_tests}
use Rattle.rinda_rules.specs.Space.{is_due_notifier}
use Rattle.rinda_audit.proofs.Ages.{none_due_step}
use Rattle.rinda_audit.proofs.aging.least_notifier.Goals as goal

pub loop-n-preserved : goal.loop-n-preserved
loop-n-preserved c =
    grind (arith, nat_tests, none_due_step (λ n. n.id) (is_due_notifier c.args.now) c.args.from c.loop-n.least c.sooner-least.result c.args.rows.now c.loop-n.n-index c.n-item.result)
