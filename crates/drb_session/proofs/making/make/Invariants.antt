use Rattle.std.proofs.Common.{◌≡◌, ◌-◌, ◌^◌}
use Rattle.drb_session.specs.Runs.{MakesNone}
use Rattle.drb_session.proofs.making.make.Given as goal

abbrev pub invariant-loop-out : goal.invariant-loop-out
invariant-loop-out g l = record {
  same : l.event ≡ l.fn.event;
  none : MakesNone (g.T.Turns.pass l.fn.turns) (g.T.Turns.pass l.turns) (g.C.Clock.readings l.fn.clock) (g.C.Clock.readings l.clock);
  held : g.T.Turns.held l.turns ≡ g.T.Turns.held l.fn.turns;
}

abbrev pub decreases-loop-out : goal.decreases-loop-out
decreases-loop-out g l = 2 ^ 64 - (g.T.Turns.pass l.turns).known
