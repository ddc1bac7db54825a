use Rattle.std.proofs.Common.{◌∙◌, refl, ap}
use Rattle.std.specs.Prelude.{◌==◌, if◌then◌else◌}
use Rattle.std.proofs.lemmas.Result.{on_ok_weaker}
use Rattle.rinda_notify.specs.Notes.{renewed}
use Rattle.rinda_notify.proofs.Told as N
use Rattle.rinda_rules.proofs.Becoming.{leased_within}
use Rattle.rinda_rules.specs.Cases.{renewed_notifier}
use Rattle.rinda_rules.specs.declared.object.Doubt.TheVariants as doubt
use Rattle.rinda_tables.specs.Holds.{stage_by}
use Rattle.rinda_tables.specs.Tabled.{ahead_of}
use Rattle.rinda_tables.proofs.HoldingNoted.{noted, runs-is}
use Rattle.rinda_tables.proofs.tables.Tables.renew_note.Goals as goal

pub returns-clause-becomes : goal.returns-clause-becomes
returns-clause-becomes c = on_ok_weaker c.stand.result
    (λ comes s e h there.
    let t = ahead_of c.args.self.now in
    let same = c.is_running-running.ensures ∙ runs-is s t c.args.id e h there in
    noted s t _ c.args.id (renewed_notifier c.args.deadline c.args.renewer) (renewed c.args.deadline c.args.renewer) e (λ x. refl) h there (N.renew_is_renewed s.events c.args.deadline c.args.renewer e) (leased_within e c.args.deadline c.args.renewer doubt.No s.events) refl refl refl refl refl c.in_ok-renew.ensures.ahead
    (λ q. comes.ahead q ∙ ap (λ r. if q == c.args.id then stage_by doubt.No r c.args.deadline else t.stages q) same))
    c.stand.ensures.stands
