use Rattle.std.proofs.Common.{refl, subst}
use Rattle.rinda_rules.specs.declared.object.Last.{Last}
use Rattle.rinda_rules.specs.Phases.{request_ended}
use Rattle.rinda_tables.specs.Holds.{Holds}
use Rattle.rinda_tables.specs.Tabled.{ahead_of}
use Rattle.rinda_cases.proofs.requests.end_with.Goals as goal

pub returns-in-Ok-clause-made : goal.returns-in-Ok-clause-made
returns-in-Ok-clause-made c = λ s r h there.
    (refl, subst (λ (l : Last). Holds (request_ended l c.args.id s) (ahead_of c.end_request.new.self)) c.last_of.ensures (c.in-Ok.ensures.becomes s r h there))
