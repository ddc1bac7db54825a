use Rattle.rinda_journal.proofs.Picks.{picks_more}
use Rattle.rinda_journal.proofs.heads.picks_fields.Goals as goal

pub loop-pick-preserved : goal.loop-pick-preserved
loop-pick-preserved c = picks_more c.args.picks.now c.loop-pick.pick-index (record { request = 0; tuple = 0 }) c.number.result c.number-in-loop-pick.result c.args.fields.now.items c.loop-pick.fields.items c.put.new.fields.items c.loop-pick-test.true c.number.ensures c.number-in-loop-pick.ensures c.loop-pick.invariant c.in_ok-put.ensures
