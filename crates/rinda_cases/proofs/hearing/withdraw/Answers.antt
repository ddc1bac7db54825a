use Rattle.std.proofs.Common.{◌∙◌, refl, sym, ap}
use Rattle.std.proofs.lemmas.Result.{IfOk-weaker}
use Rattle.drb_ids.specs.declared.object.Looked.TheVariants as looked
use Rattle.rinda_rules.specs.declared.out.Out.TheVariants as out
use Rattle.rinda_rules.specs.Cases.{withdraw}
use Rattle.rinda_tables.specs.Tabled.{ahead_of}
use Rattle.rinda_cases.specs.Makes.{Is}
use Rattle.rinda_cases.proofs.Naming.{of-tuple, of-request, of-notifier, of-ended, of-recycled, of-none}
use Rattle.rinda_cases.proofs.hearing.withdraw.Goals as goal

pub returns-in-Live-Request-clause-made : goal.returns-in-Live-Request-clause-made
returns-in-Live-Request-clause-made c = IfOk-weaker c.withdraw_request.result _ _
    (λ o made s sound h. of-request (λ f. Is (withdraw s c.args.caller f) c.withdraw_request.new.tables o) s (ahead_of c.args.tables.now) c.args.id h (sym (ap looked.Live c.in-Live-Request.field-0-is) ∙ c.in-Live-Request.ensures) (λ r there. made s r h there))
    c.withdraw_request.ensures.made

pub returns-in-Live-Notifier-clause-made : goal.returns-in-Live-Notifier-clause-made
returns-in-Live-Notifier-clause-made c = IfOk-weaker c.pop_note.result _ _
    (λ o made s sound h. of-notifier (λ f. Is (withdraw s c.args.caller f) c.pop_note.new.tables o) s (ahead_of c.args.tables.now) c.args.id h (sym (ap looked.Live c.in-Live-Notifier.field-0-is) ∙ c.in-Live-Notifier.ensures) (λ n there. made s n h there))
    c.pop_note.ensures.made

pub returns-in-Live-Entry-clause-made : goal.returns-in-Live-Entry-clause-made
returns-in-Live-Entry-clause-made c = λ s sound h. of-tuple (λ f. Is (withdraw s c.args.caller f) c.args.tables.now out.WrongKind) s (ahead_of c.args.tables.now) c.args.id h (sym (ap looked.Live c.in-Live-Entry.field-0-is) ∙ c.in-Live-Entry.ensures) (λ e there. (refl, h))

pub returns-in-Ended-clause-made : goal.returns-in-Ended-clause-made
returns-in-Ended-clause-made c = λ s sound h. of-ended (λ f. Is (withdraw s c.args.caller f) c.args.tables.now c.pop_ended.result) s (ahead_of c.args.tables.now) c.args.id _ _ h c.in-Ended.ensures (c.pop_ended.ensures, h)

pub returns-in-Recycled-clause-made : goal.returns-in-Recycled-clause-made
returns-in-Recycled-clause-made c = λ s sound h. of-recycled (λ f. Is (withdraw s c.args.caller f) c.args.tables.now out.Recycled) s (ahead_of c.args.tables.now) c.args.id h c.in-Recycled.ensures (refl, h)

pub returns-in-Never-clause-made : goal.returns-in-Never-clause-made
returns-in-Never-clause-made c = λ s sound h. of-none (λ f. Is (withdraw s c.args.caller f) c.args.tables.now out.Unknown) s (ahead_of c.args.tables.now) c.args.id h c.in-Never.ensures (refl, h)
