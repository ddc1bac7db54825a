use Rattle.std.proofs.Common.{◌∙◌, refl, sym, ap}
use Rattle.std.specs.Option.{option_copied}
use Rattle.std.specs.Prelude.{◌==◌, if◌then◌else◌}
use Rattle.std.proofs.lemmas.Result.{on_ok_weaker}
use Rattle.rinda_lease.specs.declared.stage.Stage.{Stage}
use Rattle.rinda_tables.specs.Tabled.{ahead_of}
use Rattle.rinda_tables.proofs.HoldingNoted.{noted-closed, closed-stage, note-there, no-note}
use Rattle.rinda_tables.proofs.tables.Tables.close.Goals as goal

pub returns-clause-becomes : goal.returns-clause-becomes
returns-clause-becomes c = on_ok_weaker c.stand.result
    (λ comes s e h there runs.
    let t = ahead_of c.args.self.now in
    let same = c.in-Some.ensures ∙ note-there s t c.args.id e h there in
    noted-closed s t _ c.args.id c.args.last e h there runs refl refl refl refl refl c.in_ok-close.ensures.ahead
    (λ q. comes.ahead q ∙ ap (λ (x : Stage). if q == c.args.id then x else t.stages q) (ap closed-stage same)))
    c.stand.ensures.stands

pub returns-in_default-clause-becomes : goal.returns-in_default-clause-becomes
returns-in_default-clause-becomes c = λ s e h there runs. no-note _ _ (sym c.note.ensures ∙ ap option_copied c.in_default.is) (note-there s (ahead_of c.args.self.now) c.args.id e h there)
