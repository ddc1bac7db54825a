use Rattle.std.proofs.Common.{◌≡◌, Option, OnOk, subst, ap, ◌∙◌}
use Rattle.drb_tree.specs.declared.Remote.{Remote}
use Rattle.rinda_rules.specs.Space.{Plain, renewer_of}
use Rattle.rinda_rules.specs.Phases.{with_request}
use Rattle.rinda_rules.specs.Cases.{renewed_request}
use Rattle.rinda_audit.proofs.state.Replay.tell_request.Goals as goal

pub returns : goal.returns
returns c =
    subst (λ (x : Option Remote). OnOk c.lease_request.result (c.lease_request.new.self ≡ with_request c.args.r.now.id (renewed_request c.args.deadline x) c.args.self.now))
    (c.in_ok-renewer.ensures ∙ ap (λ (s : Plain). renewer_of c.args.deadline c.args.r.now.renewer s.clock) c.self.view_is) c.lease_request.ensures
