use Rattle.std.proofs.Common.{arith}
use Rattle.std.proofs.lemmas.Bool.Decides.{nat_tests}
use Rattle.rinda_rules.specs.Space.{hears}
use Rattle.rinda_audit.proofs.Heard.{heard_further}
use Rattle.rinda_audit.proofs.queue.first_heard.Goals as goal

pub loop-e-preserved : goal.loop-e-preserved
loop-e-preserved c = grind (arith, nat_tests, heard_further (hears c.args.n.now) c.args.events.now c.loop-e.e-index c.loop-e.left c.e-item.result c.in_ok-heard.heard)
