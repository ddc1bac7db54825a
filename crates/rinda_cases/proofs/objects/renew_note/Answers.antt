use Rattle.std.proofs.Common.{◌∙◌, sym}
use Rattle.std.proofs.lemmas.Result.{on_ok_weaker}
use Rattle.rinda_rules.specs.declared.plain.Notifier.{Notifier}
use Rattle.rinda_rules.proofs.Lists.{row_has_id}
use Rattle.rinda_tables.specs.Tabled.{ahead_of}
use Rattle.rinda_tables.proofs.HoldingNoted.{runs-is}
use Rattle.rinda_cases.proofs.Changing.{runs-so, renews-running, renews-closed}
use Rattle.rinda_cases.proofs.objects.renew_note.Goals as goal

pub returns-then-is_running-clause-becomes : goal.returns-then-is_running-clause-becomes
returns-then-is_running-clause-becomes c = on_ok_weaker c.renew_note.result
    (λ k s e h there.
    let is = row_has_id (λ (x : Notifier). x.id) c.args.id s.notifiers e there in
    let st = runs-so e.state (sym (runs-is s (ahead_of c.args.tables.now) c.args.id e h there) ∙ sym c.is_running.ensures ∙ c.if-is_running.true) in
    renews-running s _ c.args.id e c.args.deadline c.args.renewer is st (k s e h there))
    c.renew_note.ensures.becomes

pub returns-else-is_running-clause-becomes : goal.returns-else-is_running-clause-becomes
returns-else-is_running-clause-becomes c = λ s e h there. renews-closed s _ e c.args.deadline c.args.renewer e.state (sym (runs-is s (ahead_of c.args.tables.now) c.args.id e h there) ∙ sym c.is_running.ensures ∙ c.if-is_running.false) h
