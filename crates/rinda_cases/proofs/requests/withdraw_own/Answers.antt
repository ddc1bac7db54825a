use Rattle.std.proofs.lemmas.Result.{IfOk-weaker}
use Rattle.rinda_rules.specs.declared.row.RequestState.TheVariants as state
use Rattle.rinda_tables.specs.Tabled.{ahead_of}
use Rattle.rinda_cases.proofs.RequestsOwn.{is-case, its-state, withdraws-reserved, withdraws-parked, withdraws-granted, withdraws-answered}
use Rattle.rinda_cases.proofs.requests.withdraw_own.Goals as goal

pub returns-in-Reserved-clause-made : goal.returns-in-Reserved-clause-made
returns-in-Reserved-clause-made c = IfOk-weaker c.end_with.result _ _
    (λ o made s r h there.
    let is = its-state s (ahead_of c.args.tables.now) c.args.id c.in-Some.row.now r state.Reserved h c.in-Some.ensures c.in-Reserved.is there in
    is-case _ _ c.end_with.new.tables o (withdraws-reserved s r c.args.id there is) (made s r h there))
    c.end_with.ensures.made

pub returns-in-Parked-clause-made : goal.returns-in-Parked-clause-made
returns-in-Parked-clause-made c = IfOk-weaker c.end_with-in-Parked.result _ _
    (λ o made s r h there.
    let is = its-state s (ahead_of c.args.tables.now) c.args.id c.in-Some.row.now r state.Parked h c.in-Some.ensures c.in-Parked.is there in
    is-case _ _ c.end_with-in-Parked.new.tables o (withdraws-parked s r c.args.id there is) (made s r h there))
    c.end_with-in-Parked.ensures.made

pub returns-in-Granted-clause-made : goal.returns-in-Granted-clause-made
returns-in-Granted-clause-made c = IfOk-weaker c.collect_own.result _ _
    (λ o made s r h there.
    let is = its-state s (ahead_of c.args.tables.now) c.args.id c.in-Some.row.now r (state.Granted _) h c.in-Some.ensures c.in-Granted.is there in
    is-case _ _ c.collect_own.new.tables o (withdraws-granted s r _ is) (made s r h there))
    c.collect_own.ensures.made

pub returns-in-Answered-clause-made : goal.returns-in-Answered-clause-made
returns-in-Answered-clause-made c = IfOk-weaker c.collect_own-in-Answered.result _ _
    (λ o made s r h there.
    let is = its-state s (ahead_of c.args.tables.now) c.args.id c.in-Some.row.now r (state.Answered _) h c.in-Some.ensures c.in-Answered.is there in
    is-case _ _ c.collect_own-in-Answered.new.tables o (withdraws-answered s r _ is) (made s r h there))
    c.collect_own-in-Answered.ensures.made
