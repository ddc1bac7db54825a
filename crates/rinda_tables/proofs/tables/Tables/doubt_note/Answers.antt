use Rattle.std.proofs.Common.{refl}
use Rattle.std.proofs.lemmas.Result.{on_ok_weaker}
use Rattle.rinda_notify.specs.Notes.{doubted}
use Rattle.rinda_notify.proofs.Told as N
use Rattle.rinda_rules.proofs.Becoming.{leased_within}
use Rattle.rinda_rules.specs.Phases.{doubt_notifier}
use Rattle.rinda_rules.specs.declared.object.Doubt.TheVariants as doubt
use Rattle.rinda_tables.proofs.HoldingNoted.{noted}
use Rattle.rinda_tables.specs.Tabled.{ahead_of}
use Rattle.rinda_tables.proofs.tables.Tables.doubt_note.Goals as goal

pub returns-clause-becomes : goal.returns-clause-becomes
returns-clause-becomes c = on_ok_weaker c.doubt-2.result
    (λ comes s e h there. noted s (ahead_of c.args.self.now) _ c.args.id doubt_notifier doubted e (λ x. refl) h there (N.doubt_is_doubted s.events e) (leased_within e e.deadline e.renewer doubt.Waiting s.events) refl refl refl refl refl c.in_ok-doubt.ensures.ahead comes.ahead)
    c.doubt-2.ensures.doubted
