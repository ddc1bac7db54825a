use Rattle.std.proofs.lemmas.Result.{IfOk-weaker}
use Rattle.rinda_rules.specs.declared.plain.Request.{Request}
use Rattle.rinda_rules.specs.Cases.{collect}
use Rattle.rinda_cases.proofs.RequestsOwn.{on-own, on-refused}
use Rattle.rinda_cases.proofs.requests.collect.Goals as goal

pub returns-in-Some-clause-made : goal.returns-in-Some-clause-made
returns-in-Some-clause-made c = λ s sound h. on-refused s c.args.caller c.args.id (λ (r : Request). collect s r r.state) c.args.tables.now c.in-Some.out (c.in-Some.ensures s h) h

pub returns-in-None-clause-made : goal.returns-in-None-clause-made
returns-in-None-clause-made c = IfOk-weaker c.collect_own.result _ _
    (λ o made s sound h. on-own s c.args.caller c.args.id (λ (r : Request). collect s r r.state) c.collect_own.new.tables o (c.in-None.ensures s h) (λ r there. made s r h there))
    c.collect_own.ensures.made
