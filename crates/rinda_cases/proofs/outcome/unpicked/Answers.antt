use Rattle.std.proofs.Common.{None, sym, subst}
use Rattle.std.proofs.lemmas.Result.{IfOk-weaker}
use Rattle.rinda_rules.specs.declared.out.Out.{Out}
use Rattle.rinda_rules.specs.declared.event.Event.{Event}
use Rattle.rinda_rules.specs.declared.plain.Request.{Request}
use Rattle.rinda_rules.specs.Space.{Plain, found}
use Rattle.rinda_rules.specs.Cases.{outcome, on_own, settle}
use Rattle.rinda_tables.specs.Holds.{Holds}
use Rattle.rinda_tables.specs.Tabled.{ahead_of}
use Rattle.rinda_cases.specs.Makes.{Is, Makes}
use Rattle.rinda_cases.proofs.Unchanged.{look-keeps, value-keeps}
use Rattle.rinda_cases.proofs.outcome.unpicked.Goals as goal

pub returns-in-Settle-clause-made : goal.returns-in-Settle-clause-made
returns-in-Settle-clause-made c = IfOk-weaker c.settle.result (λ (o : Out). Makes (λ s. on_own s c.args.caller (λ (r : Request). settle s r c.in-Settle.ok r.state) (found s c.in-Settle.id)) c.args.tables.now c.settle.new.tables o) _
    (λ o made no. subst (λ (e : Event). Makes (λ s. outcome s c.args.caller e None) c.args.tables.now c.settle.new.tables o) (sym c.in-Settle.is) made)
    c.settle.ensures.made

pub returns-in-Look-clause-made : goal.returns-in-Look-clause-made
returns-in-Look-clause-made c = λ no s sound h.
    subst (λ (e : Event). Is (outcome s c.args.caller e None) c.args.tables.now c.look.result) (sym c.in-Look.is)
    (c.look.ensures s h, subst (λ (x : Plain). Holds x (ahead_of c.args.tables.now)) (sym (look-keeps s (found s c.in-Look.id))) h)

pub returns-in-Value-clause-made : goal.returns-in-Value-clause-made
returns-in-Value-clause-made c = IfOk-weaker c.value.result _ _
    (λ o is no s sound h.
    subst (λ (e : Event). Is (outcome s c.args.caller e None) c.args.tables.now o) (sym c.in-Value.is)
    (is s h, subst (λ (x : Plain). Holds x (ahead_of c.args.tables.now)) (sym (value-keeps s (found s c.in-Value.id))) h))
    c.value.ensures
