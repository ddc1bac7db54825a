use Rattle.std.proofs.Common.{◌≡◌, Option, OnOk, subst, ap, ◌∙◌}
use Rattle.drb_tree.specs.declared.Remote.{Remote}
use Rattle.rinda_rules.specs.Space.{Plain, renewer_of}
use Rattle.rinda_rules.specs.Phases.{with_notifier}
use Rattle.rinda_rules.specs.Cases.{renewed_notifier}
use Rattle.rinda_audit.proofs.state.Replay.tell_notifier.Goals as goal

pub returns : goal.returns
returns c =
    subst (λ (x : Option Remote). OnOk c.lease_notifier.result (c.lease_notifier.new.self ≡ with_notifier c.args.n.now.id (renewed_notifier c.args.deadline x) c.args.self.now))
    (c.in_ok-renewer.ensures ∙ ap (λ (s : Plain). renewer_of c.args.deadline c.args.n.now.renewer s.clock) c.self.view_is) c.lease_notifier.ensures
