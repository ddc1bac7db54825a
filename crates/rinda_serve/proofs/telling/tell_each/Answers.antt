use Rattle.std.proofs.Common.{◌+◌, ℕ, List, drop, get_or, subst, arith, rules}
use Rattle.std.proofs.lemmas.List.{at_drop_more}
use Rattle.rinda_tables.specs.Tabled.{ahead_of}
use Rattle.rinda_tables.proofs.AgingOn.{stays-same, stays-on, none-left}
use Rattle.rinda_serve.proofs.Tells.{Telling, told-as, telling-begins, telling-goes, telling-ends}
use Rattle.rinda_serve.proofs.telling.tell_each.Goals as goal

pub loop-id-init : goal.loop-id-init
loop-id-init c = (λ s h. telling-begins c.args.value.now c.args.ids.now s c.args.tables.now c.requires h, stays-same c.args.tables.now)

pub loop-id-preserved : goal.loop-id-preserved
loop-id-preserved c = (
  λ s h.
      let left = subst (λ (ids : List ℕ). Telling c.args.value.now ids s c.loop-id.tables) (at_drop_more (λ (ids : List ℕ). ids) c.args.ids.now c.loop-id.id-index 0 (search rules)) (c.loop-id.invariant.0 s h) in
      telling-goes c.args.value.now _ (drop (c.loop-id.id-index + 1) c.args.ids.now) s c.loop-id.tables c.set_request.new.self left
      (λ r there. told-as c.args.value.now (get_or c.args.ids.now c.loop-id.id-index 0) (record s { requests = left.rows }) (ahead_of c.set_request.new.self) _ c.in_ok-copied.ensures (c.in_ok-set_request.ensures.becomes _ r left.holds there)),
  stays-on c.args.tables.now c.loop-id.tables c.set_request.new.self c.loop-id.invariant.1 c.set_request.ensures.stays,
)

pub returns-in_err-set_request-clause-stays : goal.returns-in_err-set_request-clause-stays
returns-in_err-set_request-clause-stays c = stays-on c.args.tables.now c.loop-id.tables c.set_request.new.self c.loop-id.invariant.1 c.set_request.ensures.stays

pub returns-clause-told : goal.returns-clause-told
returns-clause-told c = λ s h. telling-ends c.args.value.now s c.loop-id.tables (subst (λ (ids : List ℕ). Telling c.args.value.now ids s c.loop-id.tables) (none-left c.args.ids.now c.loop-id.id-index (grind (arith, c.loop-id-test.false))) (c.loop-id.invariant.0 s h))
