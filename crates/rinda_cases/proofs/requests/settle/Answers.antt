use Rattle.std.proofs.lemmas.Result.{IfOk-weaker}
use Rattle.rinda_rules.specs.declared.plain.Request.{Request}
use Rattle.rinda_rules.specs.Cases.{settle}
use Rattle.rinda_cases.proofs.RequestsOwn.{on-own, on-refused}
use Rattle.rinda_cases.proofs.requests.settle.Goals as goal

pub returns-in-Some-clause-made : goal.returns-in-Some-clause-made
returns-in-Some-clause-made c = λ s sound h. on-refused s c.args.caller c.args.id (λ (r : Request). settle s r c.args.ok r.state) c.args.tables.now c.in-Some.out (c.in-Some.ensures s h) h

pub returns-in-None-clause-made : goal.returns-in-None-clause-made
returns-in-None-clause-made c = IfOk-weaker c.settle_own.result _ _
    (λ o made s sound h. on-own s c.args.caller c.args.id (λ (r : Request). settle s r c.args.ok r.state) c.settle_own.new.tables o (c.in-None.ensures s h) (λ r there. made s r h there))
    c.settle_own.ensures.made
