use Rattle.std.proofs.Common.{◌≡◌, ◌∙◌, refl, sym, ap}
use Rattle.rinda_rules.specs.declared.out.Out.{Out}
use Rattle.rinda_rules.specs.declared.out.Out.TheVariants as out
use Rattle.drb_ids.specs.declared.object.Looked.TheVariants as looked
use Rattle.rinda_rules.specs.Space.{Found, Plain, tuple_at, found}
use Rattle.rinda_rules.specs.Cases.{value}
use Rattle.rinda_rules.specs.declared.plain.Entry.{Entry}
use Rattle.std.specs.Prelude.{Some}
use Rattle.rinda_tuple.specs.Tuples.{value_of}
use Rattle.rinda_tables.specs.Holds.{Holds}
use Rattle.rinda_tables.specs.Tabled.{ahead_of}
use Rattle.rinda_cases.proofs.Naming.{if-ok, of-tuple, of-request, of-notifier, of-ended, of-recycled, of-none}
use Rattle.rinda_cases.proofs.objects.value.Goals as goal

pub returns-in-Live-Entry : goal.returns-in-Live-Entry
returns-in-Live-Entry c =
    let t = ahead_of c.args.tables.now in
    if-ok (λ (o : Out). (s : Plain) (e : Entry) → Holds s t → tuple_at s c.args.id ≡ Some e → o ≡ out.Answer (value_of e.value)) (λ (o : Out). (s : Plain) → Holds s t → o ≡ (value s (found s c.args.id)).out) c.value_of_tuple.result
    (λ o k s h. of-tuple (λ (f : Found). o ≡ (value s f).out) s t c.args.id h (sym (ap looked.Live c.in-Live-Entry.field-0-is) ∙ c.in-Live-Entry.ensures) (λ e there. k s e h there))
    c.value_of_tuple.ensures

pub returns-in-Live-Request : goal.returns-in-Live-Request
returns-in-Live-Request c = λ s h. of-request (λ (f : Found). out.WrongKind ≡ (value s f).out) s (ahead_of c.args.tables.now) c.args.id h (sym (ap looked.Live c.in-Live-Request.field-0-is) ∙ c.in-Live-Request.ensures) (λ r there. refl)

pub returns-in-Live-Notifier : goal.returns-in-Live-Notifier
returns-in-Live-Notifier c = λ s h. of-notifier (λ (f : Found). out.WrongKind ≡ (value s f).out) s (ahead_of c.args.tables.now) c.args.id h (sym (ap looked.Live c.in-Live-Notifier.field-0-is) ∙ c.in-Live-Notifier.ensures) (λ n there. refl)

pub returns-in-Ended : goal.returns-in-Ended
returns-in-Ended c = λ s h. of-ended (λ (f : Found). c.value_ended.result ≡ (value s f).out) s (ahead_of c.args.tables.now) c.args.id _ _ h c.in-Ended.ensures c.value_ended.ensures

pub returns-in-Recycled : goal.returns-in-Recycled
returns-in-Recycled c = λ s h. of-recycled (λ (f : Found). out.Recycled ≡ (value s f).out) s (ahead_of c.args.tables.now) c.args.id h c.in-Recycled.ensures refl

pub returns-in-Never : goal.returns-in-Never
returns-in-Never c = λ s h. of-none (λ (f : Found). out.Unknown ≡ (value s f).out) s (ahead_of c.args.tables.now) c.args.id h c.in-Never.ensures refl
