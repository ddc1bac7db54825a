use Rattle.std.proofs.Common.{◌∙◌, sym, ap}
use Rattle.std.proofs.lemmas.Result.{IfOk-weaker}
use Rattle.drb_tree.specs.declared.Tree.{Tree}
use Rattle.rinda_rules.specs.declared.out.Out.{Out}
use Rattle.rinda_rules.specs.declared.out.Out.TheVariants as out
use Rattle.rinda_rules.specs.declared.row.RequestState.TheVariants as state
use Rattle.rinda_rules.specs.Cases.{answers}
use Rattle.rinda_tables.specs.Tabled.{ahead_of}
use Rattle.rinda_cases.proofs.RequestsOwn.{is-case, only-answers, its-state, the-value, collects-granted, collects-answered}
use Rattle.rinda_cases.proofs.requests.collect_own.Goals as goal

pub returns-in_ok-value_held-in-Granted-clause-made : goal.returns-in_ok-value_held-in-Granted-clause-made
returns-in_ok-value_held-in-Granted-clause-made c = λ s r h there.
    let t = ahead_of c.args.tables.now in
    let tuple = c.in-Granted.tuple in
    let is = its-state s t c.args.id c.in-Some.row.now r (state.Granted tuple) h c.in-Some.ensures c.in-Granted.is there in
    only-answers s _ c.args.tables.now _ (collects-granted s r c.args.id tuple there is ∙ ap (λ (v : Tree). answers s (out.Granted c.args.id v)) (the-value s t tuple _ h c.in_ok-value_held-in-Granted.ensures)) h

pub returns-in_ok-answer-in-Answered-clause-made : goal.returns-in_ok-answer-in-Answered-clause-made
returns-in_ok-answer-in-Answered-clause-made c = IfOk-weaker c.end_with.result _ _
    (λ o made s r h there.
    let t = ahead_of c.args.tables.now in
    let answer = c.in_ok-answer-in-Answered.answer in
    let is = its-state s t c.args.id c.in-Some.row.now r (state.Answered answer) h c.in-Some.ensures (c.in-Answered.is ∙ ap (λ (a : Out). state.Answered a) (sym c.in_ok-answer-in-Answered.ensures)) there in
    is-case _ _ c.end_with.new.tables o (collects-answered s r c.args.id answer there is) (made s r h there))
    c.end_with.ensures.made
