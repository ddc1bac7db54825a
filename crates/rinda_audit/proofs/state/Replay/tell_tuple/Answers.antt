use Rattle.std.proofs.Common.{◌≡◌, Option, OnOk, subst, ap, ◌∙◌}
use Rattle.drb_tree.specs.declared.Remote.{Remote}
use Rattle.rinda_rules.specs.Space.{Plain, renewer_of}
use Rattle.rinda_rules.specs.Phases.{with_tuple}
use Rattle.rinda_rules.specs.Cases.{renewed_tuple}
use Rattle.rinda_audit.proofs.state.Replay.tell_tuple.Goals as goal

pub returns : goal.returns
returns c =
    subst (λ (x : Option Remote). OnOk c.lease_tuple.result (c.lease_tuple.new.self ≡ with_tuple c.args.t.now.id (renewed_tuple c.args.deadline x) c.args.self.now))
    (c.in_ok-renewer.ensures ∙ ap (λ (s : Plain). renewer_of c.args.deadline c.args.t.now.renewer s.clock) c.self.view_is) c.lease_tuple.ensures
