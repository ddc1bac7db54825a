use Rattle.std.proofs.Common.{◌∙◌, sym, ap}
use Rattle.rinda_rules.specs.declared.plain.Request.{Request}
use Rattle.rinda_rules.specs.Cases.{value_at}
use Rattle.rinda_tables.specs.Tabled.{ahead_of}
use Rattle.rinda_cases.proofs.RequestsOwn.{its-row, its-id, the-value}
use Rattle.rinda_cases.proofs.RequestsServed.{matched-served}
use Rattle.rinda_cases.proofs.requests.submit_matched.Goals as goal

pub returns-in-Ok-clause-serves : goal.returns-in-Ok-clause-serves
returns-in-Ok-clause-serves c = λ s r t h there here.
    let old = ahead_of c.args.tables.now in
    let same = its-row s old c.args.id c.in-Some.row.now r h c.in-Some.ensures there in
    let value = sym (the-value s old c.args.tuple c.in_ok-value.value h c.in_ok-value.ensures) ∙ ap value_at here in
    matched-served s r t c.args.id c.serve.new.tables c.served_answer.result c.in-Some.row.now.kind c.in_ok-value.value (its-id s c.args.id r there) (ap (λ (x : Request). x.kind) same) c.served_answer.ensures value (c.in-Ok.ensures.served s r t h there here)
