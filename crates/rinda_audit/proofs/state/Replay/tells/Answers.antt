use Rattle.std.proofs.Common.{◌≡◌, subst}
use Rattle.std.specs.Prelude.{IsTrue, ◌↔◌}
use Rattle.rinda_rules.specs.declared.out.Out.{Out}
use Rattle.rinda_audit.proofs.state.Replay.tells.Goals as goal

pub returns-clause-out : goal.returns-clause-out
returns-clause-out c = subst (λ (o : Out). IsTrue c.is_same_out-same.result ↔ (c.args.out.now ≡ o)) c.in_ok-told.ensures.0 c.is_same_out-same.ensures

pub returns-clause-after : goal.returns-clause-after
returns-clause-after c = c.in_ok-told.ensures.1
