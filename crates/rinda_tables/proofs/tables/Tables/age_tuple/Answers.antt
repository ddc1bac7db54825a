use Rattle.std.proofs.Common.{◌≡◌, ◌∙◌, true, false, Some, ap, subst, arith}
use Rattle.std.specs.Prelude.{is_none}
use Rattle.std.proofs.lemmas.Result.{on_ok_weaker}
use Rattle.rinda_rules.specs.declared.plain.Entry.{Entry}
use Rattle.rinda_rules.specs.Rows.{row_of}
use Rattle.rinda_rules.specs.Space.{is_due_tuple}
use Rattle.rinda_rules.proofs.Lists.{row_has_id}
use Rattle.rinda_tables.specs.Tabled.{ahead_of}
use Rattle.rinda_tables.proofs.AgingRows.{moved, doubted-tuple}
use Rattle.rinda_tables.proofs.tables.Tables.age_tuple.Goals as goal

pub returns-else-is_none-clause-becomes : goal.returns-else-is_none-clause-becomes
returns-else-is_none-clause-becomes c = on_ok_weaker c.doubt_tuple.result
    (λ k s e h there.
    let t = ahead_of c.args.self.now in
    let row : Some c.in-Some.row.now ≡ Some e = c.in-Some.ensures ∙ ap (λ rows. row_of (λ (x : Entry). x.id) c.args.id rows) h.tuples ∙ there in
    let due : is_due_tuple c.args.self.now.clock c.in-Some.row.now ≡ true = grind (arith, c.is_due_tuple.ensures, c.if-not-is_due_tuple.false) in
    let is = row_has_id (λ (x : Entry). x.id) c.args.id s.tuples e there in
    let due' : is_due_tuple s.clock e ≡ true = subst (λ n. is_due_tuple n e ≡ true) h.clock (moved (λ (x : Entry). is_due_tuple c.args.self.now.clock x ≡ true) _ _ row due) in
    let asks : is_none c.in-Some.row.now.renewer ≡ false = grind (arith, c.is_none.ensures, c.if-is_none.false) in
    let asks' = moved (λ (x : Entry). is_none x.renewer ≡ false) _ _ row asks in
    doubted-tuple s _ c.args.id e is due' asks' (k s e h there))
    c.doubt_tuple.ensures.becomes
