use Rattle.std.proofs.lemmas.Result.{IfOk-weaker}
use Rattle.rinda_cases.proofs.RequestsServed.{answers-own, answers-refused}
use Rattle.rinda_cases.proofs.requests.submit.Goals as goal

pub returns-in-Some-clause-answers : goal.returns-in-Some-clause-answers
returns-in-Some-clause-answers c = λ s sound h. answers-refused s c.args.caller c.args.id c.args.tables.now c.in-Some.out (c.in-Some.ensures s h) h

pub returns-in-None-clause-answers : goal.returns-in-None-clause-answers
returns-in-None-clause-answers c = IfOk-weaker c.submit_own.result _ _
    (λ both submits s sound h. answers-own s c.args.caller c.args.id c.submit_own.new.tables both.0 both.1 (c.in-None.ensures s h) (λ r there. submits s r h there))
    c.submit_own.ensures.submits
