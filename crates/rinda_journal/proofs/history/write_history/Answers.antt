use Rattle.std.proofs.Common.{arith}
use Rattle.std.proofs.lemmas.Result.{err_from_is_err_and}
use Rattle.rinda_journal.proofs.Given.{is_there, changes_one, changes_stops, holds_more}
use Rattle.rinda_journal.specs.Texts.{HasText, TurnKept}
use Rattle.rinda_journal.proofs.history.write_history.Goals as goal

pub returns-in_err-write_one-clause-sink : goal.returns-in_err-write_one-clause-sink
returns-in_err-write_one-clause-sink g c =
    let p = err_from_is_err_and c.from_residual.result c.from_residual.ensures.1 in
    let is = is_there c.args.journal.now.turns c.loop-count.count c.turn.result c.unwrap-turn.result c.turn.ensures c.unwrap-turn.ensures in
    rw (p.1, p.2) (changes_stops c.args.journal.now.turns c.loop-count.count c.unwrap-turn.result.now c.in_err-write_one.field-0.0 is c.in_err-write_one.ensures.refuses c.loop-count.invariant.given c.in_err-write_one.ensures.sink)

pub loop-count-preserved : goal.loop-count-preserved
loop-count-preserved g c =
    let is = is_there c.args.journal.now.turns c.loop-count.count c.turn.result c.unwrap-turn.result c.turn.ensures c.unwrap-turn.ensures in
    record {
      given = changes_one c.args.journal.now.turns c.loop-count.count c.unwrap-turn.result.now is c.loop-count.invariant.given c.in_ok-write_one.ensures.sink;
      has = holds_more HasText c.args.journal.now.turns c.loop-count.count c.unwrap-turn.result.now is c.loop-count.invariant.has c.in_ok-write_one.ensures.has;
      kept = holds_more TurnKept c.args.journal.now.turns c.loop-count.count c.unwrap-turn.result.now is c.loop-count.invariant.kept c.in_ok-write_one.ensures.kept;
      within = omega arith;
    }
