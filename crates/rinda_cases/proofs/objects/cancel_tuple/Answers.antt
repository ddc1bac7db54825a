use Rattle.std.proofs.Common.{◌≡◌, ◌∙◌, Some, ap}
use Rattle.std.proofs.lemmas.Result.{on_ok_weaker}
use Rattle.rinda_rules.specs.declared.plain.Entry.{Entry}
use Rattle.rinda_rules.specs.Rows.{row_of}
use Rattle.rinda_rules.proofs.Lists.{row_has_id}
use Rattle.rinda_tables.proofs.AgingRows.{moved}
use Rattle.rinda_cases.proofs.Changing.{cancels-held}
use Rattle.rinda_cases.proofs.objects.cancel_tuple.Goals as goal

pub returns-in-Some-holder-clause-becomes : goal.returns-in-Some-holder-clause-becomes
returns-in-Some-holder-clause-becomes c = on_ok_weaker c.mark_tuple.result
    (λ k s e h there.
    let row : Some c.in-Some.row.now ≡ Some e = c.in-Some.ensures ∙ ap (λ rows. row_of (λ (x : Entry). x.id) c.args.id rows) h.tuples ∙ there in
    let is = row_has_id (λ (x : Entry). x.id) c.args.id s.tuples e there in
    cancels-held s _ c.args.id e c.in-Some-holder.field-0 is (moved (λ (x : Entry). x.holder ≡ Some c.in-Some-holder.field-0) _ _ row c.in-Some-holder.is) (k s e h there))
    c.mark_tuple.ensures.becomes
