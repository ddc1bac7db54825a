use Rattle.std.proofs.Common.{◌≡◌, ◌∙◌, List, Some, sym, ap}
use Rattle.std.specs.Prelude.{option_copied}
use Rattle.std.proofs.lemmas.Result.{IfOk-weaker}
use Rattle.rinda_rules.specs.declared.plain.Entry.{Entry}
use Rattle.rinda_rules.specs.declared.plain.Request.{Request}
use Rattle.rinda_rules.specs.Rows.{row_of}
use Rattle.rinda_effects.specs.Serves.{picks_of}
use Rattle.rinda_wait.specs.Waiting.{readers_of}
use Rattle.rinda_serve.proofs.Gives.{some-same, none-there}
use Rattle.rinda_serve.proofs.giving.read_all.Goals as goal

pub returns-in_default-clause-read : goal.returns-in_default-clause-read
returns-in_default-clause-read c = λ s t h there. absurd (none-there t (sym (ap option_copied c.in_default.is) ∙ c.row.ensures ∙ ap (λ (rows : List Entry). row_of (λ x. x.id) c.args.tuple rows) h.tuples ∙ there))

pub read_each-requires : goal.read_each-requires
read_each-requires c = λ t there. c.deref.ensures.value ∙ c.in_ok-readers.ensures ∙ ap (λ (x : Entry). readers_of x.value c.args.tables.now.requests.ahead) (some-same _ _ (c.in-Some.ensures ∙ there))

pub returns-clause-read : goal.returns-clause-read
returns-clause-read c = IfOk-weaker c.picks_of.result _ _
    (λ picks is s t h there.
    let row : Some c.in-Some.row.now ≡ Some t = c.in-Some.ensures ∙ ap (λ (rows : List Entry). row_of (λ x. x.id) c.args.tuple rows) h.tuples ∙ there in
    (is ∙ ap (picks_of c.args.tuple) (c.deref-2.ensures.value ∙ c.in_ok-readers.ensures ∙ ap (λ (x : Entry). readers_of x.value c.args.tables.now.requests.ahead) (some-same _ _ row) ∙ ap (λ (rows : List Request). readers_of t.value rows) h.requests), c.in_ok-read_each.ensures.read s t h there))
    c.picks_of.ensures
