use Rattle.std.proofs.Common.{All, subst, List}
use Rattle.std.proofs.lemmas.List.{take_all}
use Rattle.std.proofs.lemmas.List.Elements.{All-more}
use Rattle.rinda_rules.specs.declared.turn.Pick.{Pick}
use Rattle.rinda_journal.specs.Kept.{PickKept}
use Rattle.rinda_journal.proofs.kept.note_picks.Goals as goal

pub loop-pick-preserved : goal.loop-pick-preserved
loop-pick-preserved c = All-more PickKept c.args.picks.now c.loop-pick.pick-index (record { request = 0; tuple = 0 }) c.loop-pick-test.true c.loop-pick.invariant c.note_pick.ensures

pub returns : goal.returns
returns c = subst (λ (ps : List Pick). All PickKept ps) (take_all c.loop-pick.pick-index c.args.picks.now c.loop-pick-test.false) c.loop-pick.invariant
