use Rattle.std.proofs.Common.{◌≡◌, ◌∙◌, Some, ap}
use Rattle.std.proofs.lemmas.Result.{on_ok_weaker}
use Rattle.rinda_rules.specs.declared.plain.Request.{Request}
use Rattle.rinda_rules.specs.Rows.{row_of}
use Rattle.rinda_rules.proofs.Lists.{row_has_id}
use Rattle.rinda_rules.specs.declared.row.RequestState.TheVariants as state
use Rattle.rinda_tables.proofs.AgingRows.{moved}
use Rattle.rinda_cases.proofs.Changing.{cancels-reserved, cancels-parked}
use Rattle.rinda_cases.proofs.objects.cancel_request.Goals as goal

pub returns-in-Reserved-clause-becomes : goal.returns-in-Reserved-clause-becomes
returns-in-Reserved-clause-becomes c = on_ok_weaker c.mark_request.result
    (λ k s e h there.
    let row : Some c.in-Some.row.now ≡ Some e = c.in-Some.ensures ∙ ap (λ rows. row_of (λ (x : Request). x.id) c.args.id rows) h.requests ∙ there in
    let is = row_has_id (λ (x : Request). x.id) c.args.id s.requests e there in
    cancels-reserved s _ c.args.id e is (moved (λ (x : Request). x.state ≡ state.Reserved) _ _ row c.in-Reserved.is) (k s e h there))
    c.mark_request.ensures.becomes

pub returns-in-Parked-clause-becomes : goal.returns-in-Parked-clause-becomes
returns-in-Parked-clause-becomes c = on_ok_weaker c.set_request.result
    (λ k s e h there.
    let row : Some c.in-Some.row.now ≡ Some e = c.in-Some.ensures ∙ ap (λ rows. row_of (λ (x : Request). x.id) c.args.id rows) h.requests ∙ there in
    let is = row_has_id (λ (x : Request). x.id) c.args.id s.requests e there in
    cancels-parked s _ c.args.id e is (moved (λ (x : Request). x.state ≡ state.Parked) _ _ row c.in-Parked.is) (k s e h there))
    c.set_request.ensures.becomes
