use Rattle.std.proofs.Common.{◌≡◌, ◌∙◌, true, false, Some, sym, ap, subst, arith}
use Rattle.std.specs.Prelude.{is_none, option_copied}
use Rattle.std.proofs.lemmas.Result.{on_ok_weaker}
use Rattle.rinda_notify.specs.declared.note.Note.{Note}
use Rattle.rinda_notify.specs.Notes.{note_of}
use Rattle.rinda_rules.specs.declared.plain.Notifier.{Notifier}
use Rattle.rinda_rules.specs.Space.{is_due_notifier}
use Rattle.rinda_rules.proofs.Lists.{row_has_id}
use Rattle.rinda_tables.specs.Dues.{is_due_noted}
use Rattle.rinda_tables.specs.Tabled.{ahead_of}
use Rattle.rinda_tables.proofs.AgingRows.{moved, noted-due, due-is-running, closed-notifier, doubted-notifier, spared-notifier}
use Rattle.rinda_tables.proofs.HoldingNoted.{note-there, no-note}
use Rattle.rinda_tables.proofs.tables.Tables.age_note.Goals as goal

pub returns-in_default-clause-becomes : goal.returns-in_default-clause-becomes
returns-in_default-clause-becomes c = λ s e h there. no-note _ _ (sym c.note.ensures ∙ ap option_copied c.in_default.is) (note-there s (ahead_of c.args.self.now) c.args.id e h there)

pub returns-then-not-is_due_note-clause-becomes : goal.returns-then-not-is_due_note-clause-becomes
returns-then-not-is_due_note-clause-becomes c = λ s e h there.
    let t = ahead_of c.args.self.now in
    let row : Some c.in-Some.note.now ≡ Some (note_of s.events e) = c.in-Some.ensures ∙ note-there s t c.args.id e h there in
    let due : is_due_noted c.args.self.now.clock c.in-Some.note.now ≡ false = grind (arith, c.is_due_note.ensures, c.if-not-is_due_note.true) in
    let due' : is_due_notifier s.clock e ≡ false = subst (λ n. is_due_notifier n e ≡ false) h.clock (sym (noted-due s.events c.args.self.now.clock e) ∙ moved (λ (x : Note). is_due_noted c.args.self.now.clock x ≡ false) _ _ row due) in
    let is = row_has_id (λ (x : Notifier). x.id) c.args.id s.notifiers e there in
    spared-notifier s _ e due' h

pub returns-then-is_none-clause-becomes : goal.returns-then-is_none-clause-becomes
returns-then-is_none-clause-becomes c = on_ok_weaker c.close.result
    (λ k s e h there.
    let t = ahead_of c.args.self.now in
    let row : Some c.in-Some.note.now ≡ Some (note_of s.events e) = c.in-Some.ensures ∙ note-there s t c.args.id e h there in
    let due : is_due_noted c.args.self.now.clock c.in-Some.note.now ≡ true = grind (arith, c.is_due_note.ensures, c.if-not-is_due_note.false) in
    let due' : is_due_notifier s.clock e ≡ true = subst (λ n. is_due_notifier n e ≡ true) h.clock (sym (noted-due s.events c.args.self.now.clock e) ∙ moved (λ (x : Note). is_due_noted c.args.self.now.clock x ≡ true) _ _ row due) in
    let is = row_has_id (λ (x : Notifier). x.id) c.args.id s.notifiers e there in
    let asks : is_none c.in-Some.note.now.renewer ≡ true = grind (arith, c.is_none.ensures, c.if-is_none.true) in
    let asks' = moved (λ (x : Note). is_none x.renewer ≡ true) _ _ row asks in
    closed-notifier s _ c.args.id e is due' asks' (k s e h there (due-is-running s.clock e due')))
    c.close.ensures.becomes

pub returns-else-is_none-clause-becomes : goal.returns-else-is_none-clause-becomes
returns-else-is_none-clause-becomes c = on_ok_weaker c.doubt_note.result
    (λ k s e h there.
    let t = ahead_of c.args.self.now in
    let row : Some c.in-Some.note.now ≡ Some (note_of s.events e) = c.in-Some.ensures ∙ note-there s t c.args.id e h there in
    let due : is_due_noted c.args.self.now.clock c.in-Some.note.now ≡ true = grind (arith, c.is_due_note.ensures, c.if-not-is_due_note.false) in
    let due' : is_due_notifier s.clock e ≡ true = subst (λ n. is_due_notifier n e ≡ true) h.clock (sym (noted-due s.events c.args.self.now.clock e) ∙ moved (λ (x : Note). is_due_noted c.args.self.now.clock x ≡ true) _ _ row due) in
    let is = row_has_id (λ (x : Notifier). x.id) c.args.id s.notifiers e there in
    let asks : is_none c.in-Some.note.now.renewer ≡ false = grind (arith, c.is_none.ensures, c.if-is_none.false) in
    let asks' = moved (λ (x : Note). is_none x.renewer ≡ false) _ _ row asks in
    doubted-notifier s _ c.args.id e is due' asks' (k s e h there))
    c.doubt_note.ensures.becomes
