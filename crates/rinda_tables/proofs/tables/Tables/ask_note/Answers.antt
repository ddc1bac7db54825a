use Rattle.std.proofs.Common.{◌∙◌, refl, sym, ap}
use Rattle.std.specs.Prelude.{◌==◌, if◌then◌else◌}
use Rattle.std.specs.Option.{option_copied}
use Rattle.std.proofs.lemmas.Result.{on_ok_weaker}
use Rattle.rinda_notify.specs.Notes.{asked}
use Rattle.rinda_notify.proofs.Told as N
use Rattle.rinda_rules.proofs.Becoming.{leased_within}
use Rattle.rinda_rules.specs.Cases.{asked_doubt}
use Rattle.rinda_tables.specs.Holds.{stage_by}
use Rattle.rinda_tables.specs.Tabled.{ahead_of, asked_notifier}
use Rattle.rinda_tables.proofs.HoldingNoted.{noted, runs-is, note-there, no-note, asked-stage}
use Rattle.rinda_tables.proofs.tables.Tables.ask_note.Goals as goal

pub returns-clause-becomes : goal.returns-clause-becomes
returns-clause-becomes c = on_ok_weaker c.stand.result
    (λ comes s e h there.
    let t = ahead_of c.args.self.now in
    let runs = c.is_running-running.ensures ∙ runs-is s t c.args.id e h there in
    let row = c.in-Some.ensures ∙ note-there s t c.args.id e h there in
    noted s t _ c.args.id asked_notifier asked e (λ x. refl) h there (N.ask_is_asked s.events e) (leased_within e e.deadline e.renewer (asked_doubt e.doubt) s.events) refl refl refl refl refl c.in_ok-ask.ensures.ahead
    (λ q. comes.ahead q ∙ ap (λ d. if q == c.args.id then stage_by d c.is_running-running.result c.in-Some.note.now.deadline else t.stages q) c.asked_doubt-doubt.ensures ∙ ap (λ x. if q == c.args.id then x else t.stages q) (asked-stage _ _ _ _ row runs)))
    c.stand.ensures.stands

pub returns-in_default-clause-becomes : goal.returns-in_default-clause-becomes
returns-in_default-clause-becomes c = λ s e h there. no-note _ _ (sym c.note.ensures ∙ ap option_copied c.in_default.is) (note-there s (ahead_of c.args.self.now) c.args.id e h there)
