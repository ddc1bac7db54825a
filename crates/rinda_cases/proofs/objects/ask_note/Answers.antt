use Rattle.std.proofs.Common.{◌≡◌, ◌∙◌, Option, Some, refl, sym, ap, subst}
use Rattle.std.specs.Option.{option_copied}
use Rattle.rinda_notify.specs.declared.note.Note.{Note}
use Rattle.rinda_notify.specs.Notes.{note_of}
use Rattle.rinda_tables.proofs.HoldingNoted.{note-there, no-note}
use Rattle.drb_tree.specs.declared.Remote.{Remote}
use Rattle.rinda_rules.specs.declared.object.Doubt.TheVariants as doubt
use Rattle.rinda_rules.specs.declared.out.Out.TheVariants as out
use Rattle.rinda_rules.specs.Space.{Plain}
use Rattle.rinda_rules.specs.Cases.{ask, asking_of, least}
use Rattle.rinda_tables.specs.Holds.{Holds}
use Rattle.rinda_tables.specs.Tabled.{ahead_of}
use Rattle.rinda_tables.proofs.AgingRows.{moved}
use Rattle.rinda_cases.specs.Makes.{Is}
use Rattle.rinda_cases.proofs.Asking.{asked-notifier}
use Rattle.rinda_cases.proofs.objects.ask_note.Goals as goal

pub returns-in_default-clause-made : goal.returns-in_default-clause-made
returns-in_default-clause-made c = λ s e h there. no-note _ _ (sym c.note.ensures ∙ ap option_copied c.in_default.is) (note-there s (ahead_of c.args.tables.now) c.args.id e h there)

pub returns-in_default-2-clause-made : goal.returns-in_default-2-clause-made
returns-in_default-2-clause-made c = λ s e h there.
    let row : Some c.in-Some.note.now ≡ Some (note_of s.events e) = c.in-Some.ensures ∙ note-there s (ahead_of c.args.tables.now) c.args.id e h there in
    let renews = moved (λ (x : Note). c.in_ok-renewer.field-0 ≡ x.renewer) _ _ row c.in_ok-renewer.ensures in
    subst (λ (w : Option Remote). Is (ask s (least (asking_of c.args.id doubt.Waiting w))) c.args.tables.now out.NotYet) (sym c.in_default-2.is ∙ renews) (refl, h)

pub returns-clause-made : goal.returns-clause-made
returns-clause-made c = λ s e h there.
    let new = c.ask_note.new.self in
    let row : Some c.in-Some.note.now ≡ Some (note_of s.events e) = c.in-Some.ensures ∙ note-there s (ahead_of c.args.tables.now) c.args.id e h there in
    let renews = moved (λ (x : Note). c.in_ok-renewer.field-0 ≡ x.renewer) _ _ row c.in_ok-renewer.ensures in
    let after = subst (λ (q : Plain). Holds q (ahead_of new)) (sym (asked-notifier s (ahead_of c.args.tables.now) c.args.id e h there)) (c.in_ok-ask_note.ensures.becomes s e h there) in
    subst (λ (w : Option Remote). Is (ask s (least (asking_of c.args.id doubt.Waiting w))) new (out.Ask c.args.id c.in-Some-2.renewer)) (sym c.in-Some-2.is ∙ renews) (refl, after)
