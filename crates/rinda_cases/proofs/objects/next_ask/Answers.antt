use Rattle.std.proofs.Common.{◌∙◌, Option, refl, sym, ap, subst}
use Rattle.rinda_lease.specs.Stages.{IsNextAsk}
use Rattle.rinda_rules.specs.declared.object.Doubt.TheVariants as doubt
use Rattle.rinda_rules.specs.declared.out.Out.TheVariants as out
use Rattle.drb_ids.specs.declared.object.Looked.TheVariants as looked
use Rattle.rinda_rules.specs.Cases.{Outcome, Asking, ask, asking_of, askings, least}
use Rattle.rinda_tables.specs.Tabled.{ahead_of}
use Rattle.rinda_cases.specs.Makes.{Is, Makes, MakesBy, MakesFor, MakesOf}
use Rattle.rinda_cases.proofs.Named.{names-tuple, names-request, names-notifier}
use Rattle.rinda_cases.proofs.Naming.{if-ok}
use Rattle.rinda_cases.proofs.Asking.{asks-nobody, none-waits, next-waits, next-least, least-tuple, least-request, least-notifier, unasked}
use Rattle.rinda_cases.proofs.objects.next_ask.Goals as goal

pub returns-in_default-clause-made : goal.returns-in_default-clause-made
returns-in_default-clause-made c = λ s sound h.
    let t = c.args.tables.now in
    subst (λ (o : Outcome). Is o t out.NotYet) (sym (asks-nobody s (ahead_of t) h (none-waits s t h (subst (IsNextAsk t.deadlines.entries) c.in_default.is c.next_ask.ensures)))) (refl, h)

pub returns-in-Live-Entry-clause-made : goal.returns-in-Live-Entry-clause-made
returns-in-Live-Entry-clause-made c =
    let t = c.args.tables.now in
    let id = c.in-Some.id in
    if-ok (MakesBy id (λ e s. ask s (least (asking_of id doubt.Waiting e.renewer))) t c.ask_tuple.new.tables) (Makes (λ s. ask s (least (askings s))) t c.ask_tuple.new.tables) c.ask_tuple.result
    (λ o k s sound h.
    let n = names-tuple s (ahead_of t) id h (sym (ap looked.Live c.in-Live-Entry.field-0-is) ∙ c.in-Live-Entry.ensures) in
    subst (λ (a : Option Asking). Is (ask s a) c.ask_tuple.new.tables o) (sym (least-tuple s (ahead_of t) id n.0 sound h n.2 (next-waits s t id h c.in-Some.ensures) (next-least s t id h c.in-Some.ensures))) (k s n.0 h n.2))
    c.ask_tuple.ensures.made

pub returns-in-Live-Request-clause-made : goal.returns-in-Live-Request-clause-made
returns-in-Live-Request-clause-made c =
    let t = c.args.tables.now in
    let id = c.in-Some.id in
    if-ok (MakesFor id (λ e s. ask s (least (asking_of id doubt.Waiting e.renewer))) t c.ask_request.new.tables) (Makes (λ s. ask s (least (askings s))) t c.ask_request.new.tables) c.ask_request.result
    (λ o k s sound h.
    let n = names-request s (ahead_of t) id h (sym (ap looked.Live c.in-Live-Request.field-0-is) ∙ c.in-Live-Request.ensures) in
    subst (λ (a : Option Asking). Is (ask s a) c.ask_request.new.tables o) (sym (least-request s (ahead_of t) id n.0 sound h n.2 (next-waits s t id h c.in-Some.ensures) (next-least s t id h c.in-Some.ensures))) (k s n.0 h n.2))
    c.ask_request.ensures.made

pub returns-in-Live-Notifier-clause-made : goal.returns-in-Live-Notifier-clause-made
returns-in-Live-Notifier-clause-made c =
    let t = c.args.tables.now in
    let id = c.in-Some.id in
    if-ok (MakesOf id (λ e s. ask s (least (asking_of id doubt.Waiting e.renewer))) t c.ask_note.new.tables) (Makes (λ s. ask s (least (askings s))) t c.ask_note.new.tables) c.ask_note.result
    (λ o k s sound h.
    let n = names-notifier s (ahead_of t) id h (sym (ap looked.Live c.in-Live-Notifier.field-0-is) ∙ c.in-Live-Notifier.ensures) in
    subst (λ (a : Option Asking). Is (ask s a) c.ask_note.new.tables o) (sym (least-notifier s (ahead_of t) id n.0 sound h n.2 (next-waits s t id h c.in-Some.ensures) (next-least s t id h c.in-Some.ensures))) (k s n.0 h n.2))
    c.ask_note.ensures.made

pub returns-in-Ended-clause-made : goal.returns-in-Ended-clause-made
returns-in-Ended-clause-made c = λ s sound h. unasked s (ahead_of c.args.tables.now) c.in-Some.id _ h c.in-Ended.ensures (next-waits s c.args.tables.now c.in-Some.id h c.in-Some.ensures) refl

pub returns-in-Recycled-clause-made : goal.returns-in-Recycled-clause-made
returns-in-Recycled-clause-made c = λ s sound h. unasked s (ahead_of c.args.tables.now) c.in-Some.id _ h c.in-Recycled.ensures (next-waits s c.args.tables.now c.in-Some.id h c.in-Some.ensures) refl

pub returns-in-Never-clause-made : goal.returns-in-Never-clause-made
returns-in-Never-clause-made c = λ s sound h. unasked s (ahead_of c.args.tables.now) c.in-Some.id _ h c.in-Never.ensures (next-waits s c.args.tables.now c.in-Some.id h c.in-Some.ensures) refl
