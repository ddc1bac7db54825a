use Rattle.std.proofs.Common.{◌+◌, ◌∙◌, ℕ, List, drop, ap, subst, arith, rules}
use Rattle.std.proofs.lemmas.List.{at_drop_more}
use Rattle.rinda_rules.specs.declared.plain.Entry.{Entry}
use Rattle.rinda_rules.specs.Rows.{row_of}
use Rattle.rinda_tables.proofs.AgingOn.{stays-same, stays-on, none-left}
use Rattle.rinda_serve.proofs.Tells.{Telling, telling-begins, telling-goes, telling-ends}
use Rattle.rinda_serve.proofs.giving.read_each.Goals as goal

pub loop-id-init : goal.loop-id-init
loop-id-init c = (λ s t h there. telling-begins t.value c.args.ids.now s c.args.tables.now (c.requires t (ap (λ (rows : List Entry). row_of (λ x. x.id) c.args.tuple rows) h.tuples ∙ there)) h, stays-same c.args.tables.now)

pub loop-id-preserved : goal.loop-id-preserved
loop-id-preserved c = (
  λ s t h there.
      let left = subst (λ (ids : List ℕ). Telling t.value ids s c.loop-id.tables) (at_drop_more (λ (ids : List ℕ). ids) c.args.ids.now c.loop-id.id-index 0 (search rules)) (c.loop-id.invariant.0 s t h there) in
      telling-goes t.value _ (drop (c.loop-id.id-index + 1) c.args.ids.now) s c.loop-id.tables c.answer.new.tables left
      (λ r is. c.in_ok-answer.ensures.answered (record s { requests = left.rows }) r t left.holds is there),
  stays-on c.args.tables.now c.loop-id.tables c.answer.new.tables c.loop-id.invariant.1 c.answer.ensures.stays,
)

pub returns-in_err-answer-clause-stays : goal.returns-in_err-answer-clause-stays
returns-in_err-answer-clause-stays c = stays-on c.args.tables.now c.loop-id.tables c.answer.new.tables c.loop-id.invariant.1 c.answer.ensures.stays

pub returns-clause-read : goal.returns-clause-read
returns-clause-read c = λ s t h there. let t' : Entry = t in telling-ends t'.value s c.loop-id.tables (subst (λ (ids : List ℕ). Telling t'.value ids s c.loop-id.tables) (none-left c.args.ids.now c.loop-id.id-index (grind (arith, c.loop-id-test.false))) (c.loop-id.invariant.0 s t h there))
