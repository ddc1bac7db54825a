use Rattle.std.proofs.Common.{◌≡◌, ◌∙◌, None, refl, sym, ap, subst}
use Rattle.std.specs.Prelude.{is_some, option_copied}
use Rattle.std.proofs.lemmas.Result.{on_ok_weaker}
use Rattle.rinda_notify.specs.Notes.{note_at}
use Rattle.rinda_rules.specs.declared.plain.Entry.{Entry}
use Rattle.rinda_rules.specs.declared.plain.Request.{Request}
use Rattle.rinda_rules.specs.Rows.{row_of}
use Rattle.rinda_rules.specs.Space.{request_at, tuple_at, notifier_at, ended_at}
use Rattle.rinda_tables.specs.Holds.{Holds}
use Rattle.rinda_tables.specs.Tabled.{ahead_of}
use Rattle.rinda_tables.proofs.AgingRows.{has-note, no-row, aged-notifier, aged-nothing}
use Rattle.rinda_tables.proofs.tables.Tables.age_at.Goals as goal

pub returns-then-has-clause-becomes : goal.returns-then-has-clause-becomes
returns-then-has-clause-becomes c = on_ok_weaker c.age_note.result
    (λ k s h.
    let r : request_at s c.args.id ≡ None = ap (λ rows. row_of (λ (x : Request). x.id) c.args.id rows) (sym h.requests) ∙ sym c.row.ensures ∙ ap option_copied (no-row _ (sym c.is_some.ensures ∙ c.if-is_some.false)) in
    let t : tuple_at s c.args.id ≡ None = ap (λ rows. row_of (λ (x : Entry). x.id) c.args.id rows) (sym h.tuples) ∙ sym c.row-else-is_some.ensures ∙ ap option_copied (no-row _ (sym c.is_some-else-is_some.ensures ∙ c.if-is_some-2.false)) in
    let n : is_some (note_at c.args.id c.args.self.now.notes.ahead) ≡ is_some (notifier_at s c.args.id) = ap (λ notes. is_some (note_at c.args.id notes)) h.notes ∙ has-note s.events c.args.id s.notifiers in
    aged-notifier s _ c.args.id (notifier_at s c.args.id) r t refl (sym n ∙ sym c.has.ensures ∙ c.if-has.true) (λ e there. k s e h there))
    c.age_note.ensures.becomes

pub returns-else-has-clause-becomes : goal.returns-else-has-clause-becomes
returns-else-has-clause-becomes c = λ s h.
    let r : request_at s c.args.id ≡ None = ap (λ rows. row_of (λ (x : Request). x.id) c.args.id rows) (sym h.requests) ∙ sym c.row.ensures ∙ ap option_copied (no-row _ (sym c.is_some.ensures ∙ c.if-is_some.false)) in
    let t : tuple_at s c.args.id ≡ None = ap (λ rows. row_of (λ (x : Entry). x.id) c.args.id rows) (sym h.tuples) ∙ sym c.row-else-is_some.ensures ∙ ap option_copied (no-row _ (sym c.is_some-else-is_some.ensures ∙ c.if-is_some-2.false)) in
    let n : is_some (note_at c.args.id c.args.self.now.notes.ahead) ≡ is_some (notifier_at s c.args.id) = ap (λ notes. is_some (note_at c.args.id notes)) h.notes ∙ has-note s.events c.args.id s.notifiers in
    subst (λ q. Holds q (ahead_of c.args.self.now)) (sym (aged-nothing s c.args.id (ended_at s c.args.id) r t (no-row _ (sym n ∙ sym c.has.ensures ∙ c.if-has.false)) refl)) h
