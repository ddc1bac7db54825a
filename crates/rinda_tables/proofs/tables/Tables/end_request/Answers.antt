use Rattle.std.proofs.Common.{refl}
use Rattle.rinda_rules.specs.declared.plain.Request.{Request}
use Rattle.rinda_rules.proofs.Lists.{row_has_id}
use Rattle.rinda_tables.specs.Tabled.{ahead_of}
use Rattle.rinda_tables.proofs.HoldingSame.{ended-request}
use Rattle.rinda_tables.proofs.tables.Tables.end_request.Goals as goal

pub returns-clause-becomes : goal.returns-clause-becomes
returns-clause-becomes c = λ s e h there.
    let t = ahead_of c.args.self.now in
    let same = row_has_id (λ (r : Request). r.id) c.args.id s.requests e there in
    ended-request s t (_) c.args.last e c.args.id h same there refl refl c.end.ensures.ended refl c.in_ok-take_out.ensures.ahead refl c.in_ok-rest.ensures.still.ahead
