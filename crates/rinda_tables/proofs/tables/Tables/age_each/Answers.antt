use Rattle.std.proofs.Common.{◌+◌, ℕ, List, drop, subst, arith, rules}
use Rattle.std.proofs.lemmas.List.{at_drop_more}
use Rattle.rinda_tables.proofs.AgingOn.{Aging, aging-begins, aging-goes, aging-ends, stays-same, stays-on, adds-none, adds-on, none-left}
use Rattle.rinda_tables.proofs.tables.Tables.age_each.Goals as goal

pub loop-id-init : goal.loop-id-init
loop-id-init c = (λ s h. aging-begins c.args.ids.now s c.args.self.now c.requires.due h, stays-same c.args.self.now, adds-none c.args.self.now)

pub loop-id-preserved : goal.loop-id-preserved
loop-id-preserved c = (
  λ s h. aging-goes _ (drop (c.loop-id.id-index + 1) c.args.ids.now) s c.loop-id.self c.age_at.new.self
      (subst (λ (ids : List ℕ). Aging ids s c.loop-id.self) (at_drop_more (λ (ids : List ℕ). ids) c.args.ids.now c.loop-id.id-index 0 (search rules)) (c.loop-id.invariant.0 s h))
      c.in_ok-age_at.ensures.becomes c.age_at.ensures.stays.clock,
  stays-on c.args.self.now c.loop-id.self c.age_at.new.self c.loop-id.invariant.1 c.age_at.ensures.stays,
  adds-on c.args.self.now c.loop-id.self c.age_at.new.self c.loop-id.invariant.2 c.age_at.ensures.none_added,
)

pub returns-clause-becomes : goal.returns-clause-becomes
returns-clause-becomes c = λ s h. aging-ends s c.loop-id.self (subst (λ (ids : List ℕ). Aging ids s c.loop-id.self) (none-left c.args.ids.now c.loop-id.id-index (grind (arith, c.loop-id-test.false))) (c.loop-id.invariant.0 s h))
