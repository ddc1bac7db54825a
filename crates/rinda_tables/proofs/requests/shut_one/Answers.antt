use Rattle.std.proofs.Common.{sym, ◌∙◌}
use Rattle.rinda_rules.specs.declared.out.Out.TheVariants as out
use Rattle.rinda_rules.specs.declared.row.RequestState.TheVariants.{Answered}
use Rattle.rinda_rules.specs.Phases.{in_state}
use Rattle.rinda_wait.specs.Waiting.{canceled}
use Rattle.rinda_tables.proofs.Asked.{backs-mark, backs-set, undone-changed, shut-one-reserved, shut-one-parked, shut-one-other}
use Rattle.rinda_tables.proofs.requests.shut_one.Goals as goal

pub returns-then-is_reserved-clause-waits : goal.returns-then-is_reserved-clause-waits
returns-then-is_reserved-clause-waits c = c.mark.ensures ∙ shut-one-reserved c.args.id c.args.waits.now c.requires.rise (sym c.is_reserved.ensures ∙ c.if-is_reserved.true)

pub returns-then-is_reserved-clause-back : goal.returns-then-is_reserved-clause-back
returns-then-is_reserved-clause-back c = rw (c.mark.ensures, c.push_reserved.ensures.items, c.is_marked-before.ensures) (undone-changed _ c.args.id canceled _ c.args.steps.now.items c.args.waits.now (backs-mark c.args.id c.args.waits.now) c.requires.rise)

pub returns-then-is_parked-clause-waits : goal.returns-then-is_parked-clause-waits
returns-then-is_parked-clause-waits c = c.set-before.ensures.list ∙ shut-one-parked c.args.id c.args.waits.now c.requires.rise (sym c.is_reserved.ensures ∙ c.if-is_reserved.false) (sym c.is_parked.ensures ∙ c.if-is_parked.true)

pub returns-then-is_parked-clause-back : goal.returns-then-is_parked-clause-back
returns-then-is_parked-clause-back c = rw (c.set-before.ensures.list, c.push_reserved-then-is_parked.ensures.items, c.set-before.ensures.before) (undone-changed _ c.args.id (in_state (Answered out.Canceled)) _ c.args.steps.now.items c.args.waits.now (backs-set c.args.id (Answered out.Canceled) c.args.waits.now) c.requires.rise)

pub returns-else-is_parked-clause-waits : goal.returns-else-is_parked-clause-waits
returns-else-is_parked-clause-waits c = shut-one-other c.args.id c.args.waits.now c.requires.rise (sym c.is_reserved.ensures ∙ c.if-is_reserved.false) (sym c.is_parked.ensures ∙ c.if-is_parked.false)
