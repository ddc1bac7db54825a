use Rattle.std.proofs.Common.{arith}
use Rattle.std.proofs.lemmas.Bool.Decides.{nat_tests}
use Rattle.rinda_rules.specs.Space.{is_due_tuple}
use Rattle.rinda_audit.proofs.Ages.{none_due_step}
use Rattle.rinda_audit.proofs.aging.least_tuple.Goals as goal

pub loop-t-preserved : goal.loop-t-preserved
loop-t-preserved c =
    grind (arith, nat_tests, none_due_step (λ t. t.id) (is_due_tuple c.args.now) c.args.from c.loop-t.least c.sooner-least.result c.args.rows.now c.loop-t.t-index c.t-item.result)
