use Rattle.std.proofs.Common.{◌≡◌, ◌∙◌, ℕ, true, false, Some, sym, ap, subst, arith}
use Rattle.std.specs.Option.{option_copied}
use Rattle.std.proofs.lemmas.Result.{on_ok_weaker}
use Rattle.rinda_notify.specs.declared.note.Note.{Note}
use Rattle.rinda_notify.specs.Notes.{note_of}
use Rattle.rinda_rules.specs.declared.plain.Notifier.{Notifier}
use Rattle.rinda_rules.specs.Space.{renewer_of}
use Rattle.rinda_rules.specs.Cases.{is_asked}
use Rattle.rinda_rules.proofs.Lists.{row_has_id}
use Rattle.rinda_tables.specs.Tabled.{ahead_of}
use Rattle.rinda_tables.proofs.AgingRows.{moved}
use Rattle.rinda_tables.proofs.HoldingNoted.{note-there, no-note}
use Rattle.rinda_cases.proofs.Changing.{tells-notifier, spares-notifier}
use Rattle.rinda_cases.proofs.objects.told_note.Goals as goal

pub returns-in_default-clause-becomes : goal.returns-in_default-clause-becomes
returns-in_default-clause-becomes c = λ s e h there. no-note _ _ (sym c.note.ensures ∙ ap option_copied c.in_default.is) (note-there s (ahead_of c.args.tables.now) c.args.id e h there)

pub returns-then-not-is_asked-clause-becomes : goal.returns-then-not-is_asked-clause-becomes
returns-then-not-is_asked-clause-becomes c = λ s e h there.
    let row : Some c.in-Some.note.now ≡ Some (note_of s.events e) = c.in-Some.ensures ∙ note-there s (ahead_of c.args.tables.now) c.args.id e h there in
    let asks : is_asked c.in-Some.note.now.doubt ≡ false = grind (arith, c.is_asked.ensures, c.if-not-is_asked.true) in
    spares-notifier s _ e c.args.deadline (moved (λ (x : Note). is_asked x.doubt ≡ false) _ _ row asks) h

pub returns-clause-becomes : goal.returns-clause-becomes
returns-clause-becomes c = on_ok_weaker c.renew_note.result
    (λ k s e h there.
    let row : Some c.in-Some.note.now ≡ Some (note_of s.events e) = c.in-Some.ensures ∙ note-there s (ahead_of c.args.tables.now) c.args.id e h there in
    let is = row_has_id (λ (x : Notifier). x.id) c.args.id s.notifiers e there in
    let asks : is_asked c.in-Some.note.now.doubt ≡ true = grind (arith, c.is_asked.ensures, c.if-not-is_asked.false) in
    let renews = moved (λ (x : Note). c.in_ok-renewer.renewer ≡ renewer_of c.args.deadline x.renewer c.args.tables.now.clock) _ _ row c.in_ok-renewer.ensures in
    tells-notifier s _ c.args.id e c.args.deadline _ is (moved (λ (x : Note). is_asked x.doubt ≡ true) _ _ row asks) (subst (λ (n : ℕ). c.in_ok-renewer.renewer ≡ renewer_of c.args.deadline e.renewer n) h.clock renews) (k s e h there))
    c.renew_note.ensures.becomes
