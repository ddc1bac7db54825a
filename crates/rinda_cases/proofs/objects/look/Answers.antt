use Rattle.std.proofs.Common.{◌≡◌, ◌∙◌, refl, sym, ap}
use Rattle.rinda_rules.specs.declared.out.Out.TheVariants as out
use Rattle.drb_ids.specs.declared.object.Looked.TheVariants as looked
use Rattle.rinda_rules.specs.Space.{Found}
use Rattle.rinda_rules.specs.Cases.{look}
use Rattle.rinda_tables.specs.Tabled.{ahead_of}
use Rattle.rinda_cases.proofs.Naming.{of-tuple, of-request, of-notifier, of-ended, of-recycled, of-none}
use Rattle.rinda_cases.proofs.objects.look.Goals as goal

pub returns-in-Live-Entry : goal.returns-in-Live-Entry
returns-in-Live-Entry c = λ s h. of-tuple (λ (f : Found). c.look_tuple.result ≡ (look s f).out) s (ahead_of c.args.tables.now) c.args.id h (sym (ap looked.Live c.in-Live-Entry.field-0-is) ∙ c.in-Live-Entry.ensures) (λ e there. c.look_tuple.ensures s e h there)

pub returns-in-Live-Request : goal.returns-in-Live-Request
returns-in-Live-Request c = λ s h. of-request (λ (f : Found). c.look_request.result ≡ (look s f).out) s (ahead_of c.args.tables.now) c.args.id h (sym (ap looked.Live c.in-Live-Request.field-0-is) ∙ c.in-Live-Request.ensures) (λ r there. c.look_request.ensures s r h there)

pub returns-in-Live-Notifier : goal.returns-in-Live-Notifier
returns-in-Live-Notifier c = λ s h. of-notifier (λ (f : Found). c.look_note.result ≡ (look s f).out) s (ahead_of c.args.tables.now) c.args.id h (sym (ap looked.Live c.in-Live-Notifier.field-0-is) ∙ c.in-Live-Notifier.ensures) (λ n there. c.look_note.ensures s n h there)

pub returns-in-Ended : goal.returns-in-Ended
returns-in-Ended c = λ s h. of-ended (λ (f : Found). out.State c.ended_flags.result ≡ (look s f).out) s (ahead_of c.args.tables.now) c.args.id _ _ h c.in-Ended.ensures (ap out.State c.ended_flags.ensures)

pub returns-in-Recycled : goal.returns-in-Recycled
returns-in-Recycled c = λ s h. of-recycled (λ (f : Found). out.Recycled ≡ (look s f).out) s (ahead_of c.args.tables.now) c.args.id h c.in-Recycled.ensures refl

pub returns-in-Never : goal.returns-in-Never
returns-in-Never c = λ s h. of-none (λ (f : Found). out.Unknown ≡ (look s f).out) s (ahead_of c.args.tables.now) c.args.id h c.in-Never.ensures refl
