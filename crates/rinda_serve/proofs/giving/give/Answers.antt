use Rattle.std.proofs.Common.{◌≡◌, ◌∙◌, List, Some, sym, ap}
use Rattle.std.proofs.lemmas.Result.{on_ok_weaker}
use Rattle.rinda_rules.specs.declared.plain.Entry.{Entry}
use Rattle.rinda_rules.specs.declared.plain.Request.{Request}
use Rattle.rinda_rules.specs.Rows.{row_of}
use Rattle.rinda_rules.proofs.Lists.{row_has_id}
use Rattle.rinda_tables.proofs.AgingOn.{stays-on}
use Rattle.rinda_serve.proofs.Gives.{given-read, given-take, given-move, some-same}
use Rattle.rinda_serve.proofs.giving.give.Goals as goal

pub returns-in-Read-clause-given : goal.returns-in-Read-clause-given
returns-in-Read-clause-given c = on_ok_weaker c.answer.result
    (λ k s r t h is there.
    let row : Some c.in-Some.row.now ≡ Some r = c.in-Some.ensures ∙ ap (λ (rows : List Request). row_of (λ x. x.id) c.args.request rows) h.requests ∙ is in
    given-read s r t _ c.args.request (ap (λ (x : Request). x.kind) (sym (some-same _ _ row)) ∙ c.in-Read.is) (row_has_id (λ (x : Request). x.id) c.args.request s.requests r is) (k s r t h is there))
    c.answer.ensures.answered

pub returns-in_ok-answer-in-Take-clause-given : goal.returns-in_ok-answer-in-Take-clause-given
returns-in_ok-answer-in-Take-clause-given c = on_ok_weaker c.end_tuple.result
    (λ k s r t h is there.
    let row : Some c.in-Some.row.now ≡ Some r = c.in-Some.ensures ∙ ap (λ (rows : List Request). row_of (λ x. x.id) c.args.request rows) h.requests ∙ is in
    given-take s r t _ c.args.request (ap (λ (x : Request). x.kind) (sym (some-same _ _ row)) ∙ c.in-Take.is) (row_has_id (λ (x : Request). x.id) c.args.request s.requests r is) (k _ t (c.in_ok-answer-in-Take.ensures.answered s r t h is there) there))
    c.end_tuple.ensures.becomes

pub returns-in_ok-answer-in-Take-clause-stays : goal.returns-in_ok-answer-in-Take-clause-stays
returns-in_ok-answer-in-Take-clause-stays c = stays-on c.args.tables.now c.answer-in-Take.new.tables c.end_tuple.new.self c.answer-in-Take.ensures.stays c.end_tuple.ensures.stays

pub returns-in_ok-hold-in-Move-clause-given : goal.returns-in_ok-hold-in-Move-clause-given
returns-in_ok-hold-in-Move-clause-given c = on_ok_weaker c.set_request.result
    (λ k s r t h is there.
    let row : Some c.in-Some.row.now ≡ Some r = c.in-Some.ensures ∙ ap (λ (rows : List Request). row_of (λ x. x.id) c.args.request rows) h.requests ∙ is in
    given-move s r t _ c.args.request c.args.tuple (ap (λ (x : Request). x.kind) (sym (some-same _ _ row)) ∙ c.in-Move.is) (row_has_id (λ (x : Request). x.id) c.args.request s.requests r is) (row_has_id (λ (x : Entry). x.id) c.args.tuple s.tuples t there) (k _ r (c.in_ok-hold-in-Move.ensures.becomes s t h there) is))
    c.set_request.ensures.becomes

pub returns-in_ok-hold-in-Move-clause-stays : goal.returns-in_ok-hold-in-Move-clause-stays
returns-in_ok-hold-in-Move-clause-stays c = stays-on c.args.tables.now c.hold.new.self c.set_request.new.self c.hold.ensures.stays c.set_request.ensures.stays
