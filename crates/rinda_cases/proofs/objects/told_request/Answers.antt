use Rattle.std.proofs.Common.{◌≡◌, ◌∙◌, ℕ, true, Some, ap, subst, arith}
use Rattle.std.proofs.lemmas.Result.{on_ok_weaker}
use Rattle.rinda_rules.specs.declared.plain.Request.{Request}
use Rattle.rinda_rules.specs.Rows.{row_of}
use Rattle.rinda_rules.specs.Space.{renewer_of}
use Rattle.rinda_rules.specs.Cases.{is_asked}
use Rattle.rinda_rules.proofs.Lists.{row_has_id}
use Rattle.rinda_tables.proofs.AgingRows.{moved}
use Rattle.rinda_cases.proofs.Changing.{tells-request}
use Rattle.rinda_cases.proofs.objects.told_request.Goals as goal

pub returns-clause-becomes : goal.returns-clause-becomes
returns-clause-becomes c = on_ok_weaker c.renew_request.result
    (λ k s e h there.
    let row : Some c.in-Some.row.now ≡ Some e = c.in-Some.ensures ∙ ap (λ rows. row_of (λ (x : Request). x.id) c.args.id rows) h.requests ∙ there in
    let is = row_has_id (λ (x : Request). x.id) c.args.id s.requests e there in
    let asks : is_asked c.in-Some.row.now.doubt ≡ true = grind (arith, c.is_asked.ensures, c.if-not-is_asked.false) in
    let renews = moved (λ (x : Request). c.in_ok-renewer.renewer ≡ renewer_of c.args.deadline x.renewer c.args.tables.now.clock) _ _ row c.in_ok-renewer.ensures in
    tells-request s _ c.args.id e c.args.deadline _ is (moved (λ (x : Request). is_asked x.doubt ≡ true) _ _ row asks) (subst (λ (n : ℕ). c.in_ok-renewer.renewer ≡ renewer_of c.args.deadline e.renewer n) h.clock renews) (k s e h there))
    c.renew_request.ensures.becomes
