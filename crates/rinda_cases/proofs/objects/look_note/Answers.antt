use Rattle.std.proofs.Common.{◌≡◌, ◌∙◌, ℕ, Some, refl, sym, ap}
use Rattle.std.specs.Option.{option_copied}
use Rattle.rinda_notify.specs.declared.note.Note.{Note}
use Rattle.rinda_notify.specs.Notes.{note_of}
use Rattle.rinda_rules.specs.declared.out.Out.TheVariants as out
use Rattle.rinda_rules.specs.Cases.{notifier_flags}
use Rattle.rinda_tables.specs.Tabled.{ahead_of}
use Rattle.rinda_tables.proofs.AgingRows.{moved}
use Rattle.rinda_tables.proofs.HoldingNoted.{note-there, no-note}
use Rattle.rinda_cases.specs.Flagged.{note_flags}
use Rattle.rinda_cases.proofs.Flagged.{noted-flags}
use Rattle.rinda_cases.proofs.objects.look_note.Goals as goal

pub returns-in-None : goal.returns-in-None
returns-in-None c = λ s e h there. no-note _ _ (sym c.note.ensures ∙ ap option_copied c.in-None.is) (note-there s (ahead_of c.args.tables.now) c.args.id e h there)

pub returns-in-Some : goal.returns-in-Some
returns-in-Some c = λ s e h there.
    let now = c.args.tables.now.clock in
    let row : Some c.in-Some.note.now ≡ Some (note_of s.events e) = c.in-Some.ensures ∙ note-there s (ahead_of c.args.tables.now) c.args.id e h there in
    ap out.State (c.note_flags.ensures ∙ moved (λ (x : Note). note_flags now c.in-Some.note.now ≡ note_flags now x) _ _ row refl ∙ noted-flags s.events now e ∙ ap (λ (n : ℕ). notifier_flags n e) h.clock)
