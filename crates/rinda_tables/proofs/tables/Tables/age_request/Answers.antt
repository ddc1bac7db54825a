use Rattle.std.proofs.Common.{◌≡◌, ◌∙◌, true, false, Some, ap, subst, arith}
use Rattle.std.specs.Prelude.{is_none}
use Rattle.std.proofs.lemmas.Result.{on_ok_weaker}
use Rattle.rinda_rules.specs.declared.plain.Request.{Request}
use Rattle.rinda_rules.specs.Rows.{row_of}
use Rattle.rinda_rules.specs.Space.{is_due_request}
use Rattle.rinda_rules.proofs.Lists.{row_has_id}
use Rattle.rinda_tables.specs.Tabled.{ahead_of}
use Rattle.rinda_tables.proofs.AgingRows.{moved, expired-request, doubted-request}
use Rattle.rinda_tables.proofs.tables.Tables.age_request.Goals as goal

pub returns-then-is_none-clause-becomes : goal.returns-then-is_none-clause-becomes
returns-then-is_none-clause-becomes c = on_ok_weaker c.set_request.result
    (λ k s e h there.
    let t = ahead_of c.args.self.now in
    let row : Some c.in-Some.row.now ≡ Some e = c.in-Some.ensures ∙ ap (λ rows. row_of (λ (x : Request). x.id) c.args.id rows) h.requests ∙ there in
    let due : is_due_request c.args.self.now.clock c.in-Some.row.now ≡ true = grind (arith, c.is_due_request.ensures, c.if-not-is_due_request.false) in
    let is = row_has_id (λ (x : Request). x.id) c.args.id s.requests e there in
    let due' : is_due_request s.clock e ≡ true = subst (λ n. is_due_request n e ≡ true) h.clock (moved (λ (x : Request). is_due_request c.args.self.now.clock x ≡ true) _ _ row due) in
    let asks : is_none c.in-Some.row.now.renewer ≡ true = grind (arith, c.is_none.ensures, c.if-is_none.true) in
    let asks' = moved (λ (x : Request). is_none x.renewer ≡ true) _ _ row asks in
    expired-request s _ c.args.id e is due' asks' (k s e h there))
    c.set_request.ensures.becomes

pub returns-else-is_none-clause-becomes : goal.returns-else-is_none-clause-becomes
returns-else-is_none-clause-becomes c = on_ok_weaker c.doubt_request.result
    (λ k s e h there.
    let t = ahead_of c.args.self.now in
    let row : Some c.in-Some.row.now ≡ Some e = c.in-Some.ensures ∙ ap (λ rows. row_of (λ (x : Request). x.id) c.args.id rows) h.requests ∙ there in
    let due : is_due_request c.args.self.now.clock c.in-Some.row.now ≡ true = grind (arith, c.is_due_request.ensures, c.if-not-is_due_request.false) in
    let is = row_has_id (λ (x : Request). x.id) c.args.id s.requests e there in
    let due' : is_due_request s.clock e ≡ true = subst (λ n. is_due_request n e ≡ true) h.clock (moved (λ (x : Request). is_due_request c.args.self.now.clock x ≡ true) _ _ row due) in
    let asks : is_none c.in-Some.row.now.renewer ≡ false = grind (arith, c.is_none.ensures, c.if-is_none.false) in
    let asks' = moved (λ (x : Request). is_none x.renewer ≡ false) _ _ row asks in
    doubted-request s _ c.args.id e is due' asks' (k s e h there))
    c.doubt_request.ensures.becomes
