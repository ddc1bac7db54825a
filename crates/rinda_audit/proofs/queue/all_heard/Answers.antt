use Rattle.std.proofs.Common.{◌≡◌, ◌∙◌, ◌&&◌, false, arith}
use Rattle.std.specs.Prelude.{◌==◌}
use Rattle.std.proofs.lemmas.Bool.Decides.{nat_tests}
use Rattle.rinda_rules.specs.Space.{hears, event_value}
use Rattle.rinda_audit.proofs.Heard.{given_further, passed_further}
use Rattle.rinda_audit.proofs.queue.all_heard.Goals.{then-heard+then-left-eq0+in_ok-event_value+in_ok-push, else-heard, else-heard-via-then-heard+else-left-eq0, else-heard-via-else-heard}
use Rattle.rinda_audit.proofs.queue.all_heard.Goals as goal

pub loop-e-preserved : goal.loop-e-preserved
loop-e-preserved c = c.loop-e.invariant ∙ elim c.if-heard.branch [
  | then-heard+then-left-eq0+in_ok-event_value+in_ok-push w ↦ given_further (hears c.args.n.now) event_value c.args.events.now c.loop-e.e-index c.loop-e.left c.if-heard.left c.e-item.result c.in_ok-heard.heard c.loop-e.all c.if-heard.all (grind (arith, nat_tests)) c.e-item.is c.in_ok-heard.ensures (grind (arith, nat_tests)) (grind (arith, nat_tests)) (grind (arith, nat_tests)) (grind (arith, nat_tests))
  | else-heard w ↦ passed_further (hears c.args.n.now) event_value c.args.events.now c.loop-e.e-index c.loop-e.left c.if-heard.left c.e-item.result c.in_ok-heard.heard c.loop-e.all c.if-heard.all (grind (arith, nat_tests)) c.e-item.is c.in_ok-heard.ensures (elim w.else-heard.branch [
    | else-heard-via-then-heard+else-left-eq0 v ↦ grind (arith, nat_tests)
    | else-heard-via-else-heard v ↦ grind (arith, nat_tests)
  ]) (grind (arith, nat_tests)) (grind (arith, nat_tests))
]
