use Rattle.std.proofs.Common.{subst}
use Rattle.std.proofs.lemmas.Result.{IfOk-weaker}
use Rattle.rinda_tables.specs.Asking.{Requested, any_added}
use Rattle.rinda_tables.specs.Changed.{NamesLeft}
use Rattle.rinda_tables.proofs.Leaving.{names-left}
use Rattle.rinda_tables.proofs.requests.Requests.changes.Goals as goal

pub returns : goal.returns
returns c = IfOk-weaker c.left_ids.result _ _
    (λ ids are. subst (λ (t : Requested). NamesLeft t ids.items) c.self.view_is (names-left c.self.inside.steps.items c.self.inside.gone.items c.self.inside.waits (any_added c.self.inside.steps.items) ids.items c.self.invariant.hidden are))
    c.left_ids.ensures
