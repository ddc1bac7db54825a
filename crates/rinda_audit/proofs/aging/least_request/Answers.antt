use Rattle.std.proofs.Common.{arith}
use Rattle.std.proofs.lemmas.Bool.Decides.{nat_tests}
use Rattle.rinda_rules.specs.Space.{is_due_request}
use Rattle.rinda_audit.proofs.Ages.{none_due_step}
use Rattle.rinda_audit.proofs.aging.least_request.Goals as goal

pub loop-r-preserved : goal.loop-r-preserved
loop-r-preserved c =
    grind (arith, nat_tests, none_due_step (λ r. r.id) (is_due_request c.args.now) c.args.from c.loop-r.least c.sooner-least.result c.args.rows.now c.loop-r.r-index c.r-item.result)
