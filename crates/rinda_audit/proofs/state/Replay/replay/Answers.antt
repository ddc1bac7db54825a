use Rattle.std.proofs.Common.{◌≡◌, ◌&&◌, false}
use Rattle.rinda_audit.proofs.Replaying.{Ready, played_ok, not_both_one, not_both_two}
use Rattle.rinda_audit.proofs.state.Replay.replay.Goals.{else-nothing_due-via-then-nothing_due+else-quiet, else-nothing_due-via-else-nothing_due}
use Rattle.rinda_audit.proofs.state.Replay.replay.Goals as goal

pub returns-clause-yes : goal.returns-clause-yes
returns-clause-yes c =
    let something : (c.nothing_due.result && c.in_ok-quiet.quiet) ≡ false = elim c.else-nothing_due.branch [
      | else-nothing_due-via-then-nothing_due+else-quiet w ↦ not_both_two c.nothing_due.result c.in_ok-quiet.quiet w.if-quiet.false
      | else-nothing_due-via-else-nothing_due w ↦ not_both_one c.nothing_due.result c.in_ok-quiet.quiet w.if-nothing_due.false
    ] in
    let ready : Ready c.args.self.now c.args.turn.now c.in_ok-quiet.quiet c.advance.new.self c.nothing_due.result c.age.new.self = record {
      before = record { quiet_is = c.in_ok-quiet.ensures; ahead_is = c.advance.ensures; due_is = c.nothing_due.ensures };
      something = something;
      ready_is = c.in_ok-age.ensures;
    } in
    played_ok _ _ _ _ _ _ _ _ ready c.as_slice.ensures c.play.ensures.fits
