use Rattle.std.proofs.lemmas.Result.{on_ok_weaker}
use Rattle.rinda_rules.specs.declared.event.Kind.TheVariants as kind
use Rattle.rinda_rules.specs.declared.object.Last.TheVariants as last
use Rattle.rinda_rules.specs.Phases.{tuple_ended, with_tuple, held_by}
use Rattle.rinda_tables.specs.Tabled.{ahead_of}
use Rattle.rinda_cases.proofs.RequestsServed.{serves-as, serves-held}
use Rattle.rinda_cases.proofs.requests.serve.Goals as goal

pub returns-in-Read-clause-served : goal.returns-in-Read-clause-served
returns-in-Read-clause-served c = on_ok_weaker c.end_request.result
    (λ k s r t h there here. serves-as s (ahead_of c.end_request.new.self) c.args.kind kind.Read c.args.id t c.in-Read.is (k s r h there))
    c.end_request.ensures.becomes

pub returns-in_ok-end_tuple-in-Take-clause-served : goal.returns-in_ok-end_tuple-in-Take-clause-served
returns-in_ok-end_tuple-in-Take-clause-served c = on_ok_weaker c.end_request-in-Take.result
    (λ k s r t h there here.
    let taken = c.in_ok-end_tuple-in-Take.ensures.becomes s t h here in
    serves-as s (ahead_of c.end_request-in-Take.new.self) c.args.kind kind.Take c.args.id t c.in-Take.is (k (tuple_ended last.Taken t s) r taken there))
    c.end_request-in-Take.ensures.becomes

pub returns-in_ok-hold-in-Move-clause-served : goal.returns-in_ok-hold-in-Move-clause-served
returns-in_ok-hold-in-Move-clause-served c = on_ok_weaker c.set_request.result
    (λ k s r t h there here.
    let b = ahead_of c.set_request.new.self in
    let held = c.in_ok-hold-in-Move.ensures.becomes s t h here in
    serves-as s b c.args.kind kind.Move c.args.id t c.in-Move.is (serves-held s b c.args.id c.args.tuple t here (k (with_tuple c.args.tuple (held_by c.args.id) s) r held there)))
    c.set_request.ensures.becomes
