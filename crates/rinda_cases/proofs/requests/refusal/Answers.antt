use Rattle.std.proofs.Common.{◌∙◌, true, false, sym, ap}
use Rattle.rinda_rules.specs.declared.object.ObjectKind.{ObjectKind}
use Rattle.drb_ids.specs.declared.object.Looked.TheVariants as looked
use Rattle.rinda_tables.specs.Tabled.{ahead_of}
use Rattle.rinda_cases.proofs.RequestsOwn.{owned, not-own-tuple, not-own-notifier, not-own-ended, not-own-recycled, not-own-none}
use Rattle.rinda_cases.proofs.requests.refusal.Goals as goal

pub returns-then-is_own : goal.returns-then-is_own
returns-then-is_own c = λ s h. sym (owned s (ahead_of c.args.tables.now) c.args.caller c.args.id true h (ap (λ (k : ObjectKind). looked.Live k) (sym c.in-Live-Request.field-0-is) ∙ c.in-Live-Request.ensures) c.if-is_own.ensures)

pub returns-else-is_own : goal.returns-else-is_own
returns-else-is_own c = λ s h. sym (owned s (ahead_of c.args.tables.now) c.args.caller c.args.id false h (ap (λ (k : ObjectKind). looked.Live k) (sym c.in-Live-Request.field-0-is) ∙ c.in-Live-Request.ensures) c.if-is_own.ensures)

pub returns-in-Live-Entry : goal.returns-in-Live-Entry
returns-in-Live-Entry c = λ s h. not-own-tuple s (ahead_of c.args.tables.now) c.args.caller c.args.id h (ap (λ (k : ObjectKind). looked.Live k) (sym c.in-Live-Entry.field-0-is) ∙ c.in-Live-Entry.ensures)

pub returns-in-Live-Notifier : goal.returns-in-Live-Notifier
returns-in-Live-Notifier c = λ s h. not-own-notifier s (ahead_of c.args.tables.now) c.args.caller c.args.id h (ap (λ (k : ObjectKind). looked.Live k) (sym c.in-Live-Notifier.field-0-is) ∙ c.in-Live-Notifier.ensures)

pub returns-in-Ended : goal.returns-in-Ended
returns-in-Ended c = λ s h. not-own-ended s (ahead_of c.args.tables.now) c.args.caller c.args.id _ _ h c.in-Ended.ensures

pub returns-in-Recycled : goal.returns-in-Recycled
returns-in-Recycled c = λ s h. not-own-recycled s (ahead_of c.args.tables.now) c.args.caller c.args.id h c.in-Recycled.ensures

pub returns-in-Never : goal.returns-in-Never
returns-in-Never c = λ s h. not-own-none s (ahead_of c.args.tables.now) c.args.caller c.args.id h c.in-Never.ensures
