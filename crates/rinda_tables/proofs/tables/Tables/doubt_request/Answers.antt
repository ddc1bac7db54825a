use Rattle.std.proofs.Common.{refl}
use Rattle.std.proofs.lemmas.Result.{on_ok_weaker}
use Rattle.rinda_rules.specs.Rows.{changed}
use Rattle.rinda_rules.specs.Phases.{doubt_request}
use Rattle.rinda_tables.specs.Deadlines.{ahead_at}
use Rattle.rinda_tables.specs.Holds.{Held}
use Rattle.rinda_tables.specs.Tabled.{ahead_of}
use Rattle.rinda_tables.proofs.HoldingRequests.{holds-with-request}
use Rattle.rinda_tables.proofs.HoldingSame.{holds-same}
use Rattle.rinda_tables.proofs.tables.Tables.doubt_request.Goals as goal

pub returns-clause-becomes : goal.returns-clause-becomes
returns-clause-becomes c = on_ok_weaker c.doubt-2.result
    (λ comes s e h there.
    let t = ahead_of c.args.self.now in
    let at = ahead_at c.doubt-2.new.self in
    let new : Held = record t { requests = changed (λ x. x.id) c.args.id doubt_request t.requests; stages = at } in
    holds-same _ new _ (holds-with-request s t c.args.id doubt_request e at (λ x. refl) h there comes.ahead)
    refl refl refl refl c.in_ok-doubt.ensures.ahead refl (λ q. refl))
    c.doubt-2.ensures.doubted
