use Rattle.std.proofs.Common.{◌≡◌, ◌-◌, ◌^◌, length}
use Rattle.drb_session.specs.Passes.{Lawful}
use Rattle.drb_session.specs.Runs.{side}
use Rattle.drb_session.specs.Transcripts.{wire}
use Rattle.drb_session.specs.Session.{Going, state}
use Rattle.drb_session.proofs.serving.serve_session.Given as goal

abbrev pub invariant-loop-end : goal.invariant-loop-end
invariant-loop-end g l = record {
  going : Going l.place l.patience
      (state (side (g.T.Turns.pass l.fn.turns) (g.C.Clock.readings l.fn.clock) (g.D.Dialer.calls l.fn.dialer) (g.D.Dialer.faults l.fn.dialer))
      (wire (g.S.Source.left l.fn.input) (g.S.Source.faults l.fn.input) (g.K.Sink.given l.fn.output) (g.K.Sink.faults l.fn.output)))
      (state (side (g.T.Turns.pass l.turns) (g.C.Clock.readings l.clock) (g.D.Dialer.calls l.dialer) (g.D.Dialer.faults l.dialer))
      (wire (g.S.Source.left l.input) (g.S.Source.faults l.input) (g.K.Sink.given l.output) (g.K.Sink.faults l.output)));
  lawful : Lawful (g.T.Turns.pass l.fn.turns) → Lawful (g.T.Turns.pass l.turns);
  held : g.T.Turns.held l.turns ≡ g.T.Turns.held l.fn.turns;
  input_holds : g.S.Source.holds l.input ≡ g.S.Source.holds l.fn.input;
  output_holds : g.K.Sink.holds l.output ≡ g.K.Sink.holds l.fn.output;
}

abbrev pub decreases-loop-end : goal.decreases-loop-end
decreases-loop-end g l = 2 ^ 64 - length (g.T.Turns.pass l.turns).seen
