use Rattle.std.proofs.Common.{refl}
use Rattle.rinda_rules.specs.Space.{tuple_at}
use Rattle.rinda_rules.specs.Cases.{settle_tuple}
use Rattle.rinda_cases.proofs.RequestsOwn.{still-there}
use Rattle.rinda_cases.proofs.requests.settle_granted.Goals as goal

pub returns-clause-made : goal.returns-clause-made
returns-clause-made c = λ s r h there.
    let o = tuple_at s c.args.tuple in
    (refl, c.in_ok-end_request.ensures.becomes (settle_tuple c.args.ok o s) r (c.in_ok-settle_tuple.ensures.becomes s h) (still-there s c.args.ok o c.args.id r there))
