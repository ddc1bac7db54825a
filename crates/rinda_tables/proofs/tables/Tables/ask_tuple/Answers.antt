use Rattle.std.proofs.Common.{◌∙◌, refl, sym, ap}
use Rattle.std.specs.Prelude.{◌==◌, if◌then◌else◌}
use Rattle.std.proofs.lemmas.Result.{on_ok_weaker}
use Rattle.rinda_rules.specs.declared.plain.Entry.{Entry}
use Rattle.rinda_rules.specs.Rows.{row_of, changed}
use Rattle.rinda_rules.specs.Cases.{asked_doubt}
use Rattle.rinda_bag.specs.Changes.{asked}
use Rattle.rinda_tables.specs.Deadlines.{ahead_at}
use Rattle.rinda_tables.specs.Holds.{Held, stage_by}
use Rattle.rinda_tables.specs.Tabled.{ahead_of}
use Rattle.rinda_tables.proofs.HoldingTuples.{holds-with-tuple}
use Rattle.rinda_tables.proofs.HoldingSame.{holds-same}
use Rattle.rinda_tables.proofs.tables.Tables.ask_tuple.Goals as goal

pub returns-clause-becomes : goal.returns-clause-becomes
returns-clause-becomes c = on_ok_weaker c.stand.result
    (λ comes s e h there.
    let t = ahead_of c.args.self.now in
    let at = ahead_at c.stand.new.self in
    let row = ap (λ rows. row_of (λ (x : Entry). x.id) c.args.id rows) (sym h.tuples) ∙ sym c.in-Some.ensures in
    let new : Held = record t { tuples = changed (λ x. x.id) c.args.id asked t.tuples; stages = at } in
    holds-same _ new _ (holds-with-tuple s t c.args.id asked c.in-Some.row.now at (λ x. refl) h row (λ q. comes.ahead q ∙ ap (λ d. if q == c.args.id then stage_by d c.is_free-free.result c.in-Some.row.now.deadline else t.stages q) c.asked_doubt-doubt.ensures ∙ ap (λ b. if q == c.args.id then stage_by (asked_doubt c.in-Some.row.now.doubt) b c.in-Some.row.now.deadline else t.stages q) c.is_free-free.ensures))
    refl refl refl c.in_ok-ask.ensures.ahead refl refl (λ q. refl))
    c.stand.ensures.stands
