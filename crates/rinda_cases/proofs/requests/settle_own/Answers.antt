use Rattle.std.proofs.lemmas.Result.{IfOk-weaker}
use Rattle.rinda_rules.specs.declared.row.RequestState.TheVariants as state
use Rattle.rinda_tables.specs.Tabled.{ahead_of}
use Rattle.rinda_cases.proofs.RequestsOwn.{is-case, its-state, settles-granted}
use Rattle.rinda_cases.proofs.requests.settle_own.Goals as goal

pub returns-in-Granted-clause-made : goal.returns-in-Granted-clause-made
returns-in-Granted-clause-made c = IfOk-weaker c.settle_granted.result _ _
    (λ o made s r h there.
    let is = its-state s (ahead_of c.args.tables.now) c.args.id c.in-Some.row.now r (state.Granted c.in-Granted.tuple) h c.in-Some.ensures c.in-Granted.is there in
    is-case _ _ c.settle_granted.new.tables o (settles-granted s r c.args.ok c.args.id c.in-Granted.tuple there is) (made s r h there))
    c.settle_granted.ensures.made
