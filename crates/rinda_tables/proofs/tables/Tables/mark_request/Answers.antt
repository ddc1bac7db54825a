use Rattle.std.proofs.Common.{refl}
use Rattle.std.proofs.lemmas.Result.{on_ok_weaker}
use Rattle.rinda_rules.specs.Rows.{changed}
use Rattle.rinda_wait.specs.Waiting.{canceled}
use Rattle.rinda_tables.specs.Holds.{Held}
use Rattle.rinda_tables.specs.Tabled.{ahead_of}
use Rattle.rinda_tables.proofs.HoldingRequests.{holds-with-request}
use Rattle.rinda_tables.proofs.HoldingSame.{holds-same, request-keeps-stage}
use Rattle.rinda_tables.proofs.tables.Tables.mark_request.Goals as goal

pub returns-clause-becomes : goal.returns-clause-becomes
returns-clause-becomes c = on_ok_weaker c.mark.result
    (λ ahead s e h there.
    let t = ahead_of c.args.self.now in
    let new : Held = record t { requests = changed (λ r. r.id) c.args.id canceled t.requests; stages = t.stages } in
    holds-same _ new _ (holds-with-request s t c.args.id canceled e t.stages (λ x. refl) h there (λ q. request-keeps-stage s t e c.args.id q h there))
    refl refl refl refl ahead refl (λ q. refl))
    c.mark.ensures.ahead
