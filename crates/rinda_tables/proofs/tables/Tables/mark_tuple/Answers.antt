use Rattle.std.proofs.Common.{refl}
use Rattle.std.proofs.lemmas.Result.{on_ok_weaker}
use Rattle.rinda_rules.specs.Rows.{changed}
use Rattle.rinda_bag.specs.Changes.{marked}
use Rattle.rinda_tables.specs.Holds.{Held}
use Rattle.rinda_tables.specs.Tabled.{ahead_of}
use Rattle.rinda_tables.proofs.HoldingTuples.{holds-with-tuple}
use Rattle.rinda_tables.proofs.HoldingSame.{holds-same, tuple-keeps-stage}
use Rattle.rinda_tables.proofs.tables.Tables.mark_tuple.Goals as goal

pub returns-clause-becomes : goal.returns-clause-becomes
returns-clause-becomes c = on_ok_weaker c.mark.result
    (λ ahead s e h there.
    let t = ahead_of c.args.self.now in
    let new : Held = record t { tuples = changed (λ t. t.id) c.args.id marked t.tuples; stages = t.stages } in
    holds-same _ new _ (holds-with-tuple s t c.args.id marked e t.stages (λ x. refl) h there (λ q. tuple-keeps-stage s t e c.args.id q h there))
    refl refl refl ahead refl refl (λ q. refl))
    c.mark.ensures.ahead
