use Rattle.std.proofs.Common.{◌≡◌, ◌∙◌, List, Some, ap, subst}
use Rattle.std.proofs.lemmas.Result.{on_ok_weaker}
use Rattle.drb_tree.specs.declared.Tree.{Tree}
use Rattle.rinda_tuple.specs.Tuples.{value_of}
use Rattle.rinda_rules.specs.declared.plain.Entry.{Entry}
use Rattle.rinda_rules.specs.declared.out.Out.TheVariants as out
use Rattle.rinda_rules.specs.declared.row.RequestState.TheVariants as state
use Rattle.rinda_rules.specs.Rows.{row_of}
use Rattle.rinda_rules.specs.Phases.{request_in}
use Rattle.rinda_tables.specs.Holds.{Holds}
use Rattle.rinda_tables.specs.Tabled.{ahead_of}
use Rattle.rinda_serve.proofs.Gives.{some-same}
use Rattle.rinda_serve.proofs.giving.answer.Goals as goal

pub returns-clause-answered : goal.returns-clause-answered
returns-clause-answered c = on_ok_weaker c.set_request.result
    (λ k s r t h is there.
    let row : Some c.in-Some.row.now ≡ Some t = c.in-Some.ensures ∙ ap (λ (rows : List Entry). row_of (λ x. x.id) c.args.tuple rows) h.tuples ∙ there in
    subst (λ (v : Tree). Holds (request_in c.args.request (state.Answered (out.Answer v)) s) (ahead_of c.set_request.new.self)) (c.in_ok-copied.ensures ∙ ap (λ (x : Entry). value_of x.value) (some-same _ _ row)) (k s r h is))
    c.set_request.ensures.becomes
