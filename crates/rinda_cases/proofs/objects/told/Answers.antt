use Rattle.std.proofs.Common.{◌∙◌, refl, sym, ap}
use Rattle.drb_ids.specs.declared.object.Looked.TheVariants as looked
use Rattle.rinda_rules.specs.declared.out.Out.TheVariants as out
use Rattle.rinda_rules.specs.Cases.{told}
use Rattle.rinda_tables.specs.Tabled.{ahead_of}
use Rattle.rinda_cases.specs.Makes.{Is}
use Rattle.rinda_cases.proofs.Naming.{of-tuple, of-request, of-notifier, of-ended, of-recycled, of-none}
use Rattle.rinda_cases.proofs.objects.told.Goals as goal

pub returns-in_ok-told_tuple-in-Live-Entry-clause-made : goal.returns-in_ok-told_tuple-in-Live-Entry-clause-made
returns-in_ok-told_tuple-in-Live-Entry-clause-made c = λ s sound h. of-tuple (λ f. Is (told s c.args.deadline f) c.told_tuple.new.tables out.Plain) s (ahead_of c.args.tables.now) c.args.id h (sym (ap looked.Live c.in-Live-Entry.field-0-is) ∙ c.in-Live-Entry.ensures) (λ e there. (refl, c.in_ok-told_tuple-in-Live-Entry.ensures.becomes s e h there))

pub returns-in_ok-told_request-in-Live-Request-clause-made : goal.returns-in_ok-told_request-in-Live-Request-clause-made
returns-in_ok-told_request-in-Live-Request-clause-made c = λ s sound h. of-request (λ f. Is (told s c.args.deadline f) c.told_request.new.tables out.Plain) s (ahead_of c.args.tables.now) c.args.id h (sym (ap looked.Live c.in-Live-Request.field-0-is) ∙ c.in-Live-Request.ensures) (λ r there. (refl, c.in_ok-told_request-in-Live-Request.ensures.becomes s r h there))

pub returns-in_ok-told_note-in-Live-Notifier-clause-made : goal.returns-in_ok-told_note-in-Live-Notifier-clause-made
returns-in_ok-told_note-in-Live-Notifier-clause-made c = λ s sound h. of-notifier (λ f. Is (told s c.args.deadline f) c.told_note.new.tables out.Plain) s (ahead_of c.args.tables.now) c.args.id h (sym (ap looked.Live c.in-Live-Notifier.field-0-is) ∙ c.in-Live-Notifier.ensures) (λ n there. (refl, c.in_ok-told_note-in-Live-Notifier.ensures.becomes s n h there))

pub returns-in-Ended-clause-made : goal.returns-in-Ended-clause-made
returns-in-Ended-clause-made c = λ s sound h. of-ended (λ f. Is (told s c.args.deadline f) c.args.tables.now out.Plain) s (ahead_of c.args.tables.now) c.args.id _ _ h c.in-Ended.ensures (refl, h)

pub returns-in-Recycled-clause-made : goal.returns-in-Recycled-clause-made
returns-in-Recycled-clause-made c = λ s sound h. of-recycled (λ f. Is (told s c.args.deadline f) c.args.tables.now out.Recycled) s (ahead_of c.args.tables.now) c.args.id h c.in-Recycled.ensures (refl, h)

pub returns-in-Never-clause-made : goal.returns-in-Never-clause-made
returns-in-Never-clause-made c = λ s sound h. of-none (λ f. Is (told s c.args.deadline f) c.args.tables.now out.Unknown) s (ahead_of c.args.tables.now) c.args.id h c.in-Never.ensures (refl, h)
