use Rattle.std.proofs.Common.{◌∙◌, true, false, sym}
use Rattle.std.proofs.lemmas.Result.{IfOk-weaker}
use Rattle.rinda_rules.specs.declared.out.Out.TheVariants as out
use Rattle.rinda_rules.specs.Cases.{answers, withdraw_request}
use Rattle.rinda_tables.specs.Tabled.{ahead_of}
use Rattle.rinda_cases.proofs.RequestsOwn.{is-case, only-answers, withdraws}
use Rattle.rinda_cases.proofs.requests.withdraw_request.Goals as goal

pub returns-then-is_own-clause-made : goal.returns-then-is_own-clause-made
returns-then-is_own-clause-made c = IfOk-weaker c.withdraw_own.result _ _
    (λ o made s r h there.
    is-case _ _ c.withdraw_own.new.tables o (withdraws s (ahead_of c.args.tables.now) c.args.caller c.args.id r true (withdraw_request s r r.state) (answers s out.WrongKind) h there (sym c.is_own.ensures ∙ c.if-is_own.true)) (made s r h there))
    c.withdraw_own.ensures.made

pub returns-else-is_own-clause-made : goal.returns-else-is_own-clause-made
returns-else-is_own-clause-made c = λ s r h there.
    only-answers s _ c.args.tables.now out.WrongKind (withdraws s (ahead_of c.args.tables.now) c.args.caller c.args.id r false (withdraw_request s r r.state) (answers s out.WrongKind) h there (sym c.is_own.ensures ∙ c.if-is_own.false)) h
