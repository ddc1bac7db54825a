use Rattle.std.proofs.Common.{◌≡◌, ◌+◌, ◌*◌, ◌-◌, ◌^◌, List, length, false}
use Rattle.drb_script.specs.Rest.{weight, may_wait}
use Rattle.drb_script.specs.declared.patience.Patience.TheVariants.{Never}
use Rattle.drb_script.specs.Stands.{Action, Stands}
use Rattle.drb_session.specs.Passes.{Lawful}
use Rattle.drb_session.specs.Runs.{Did, Grew, side}
use Rattle.drb_session.proofs.running.run.Given as goal

abbrev pub invariant-loop-then : goal.invariant-loop-then
invariant-loop-then g l = record {
  actions : List Action;
  did : Did l.place
      (side (g.T.Turns.pass l.fn.turns) (g.C.Clock.readings l.fn.clock) (g.D.Dialer.calls l.fn.dialer) (g.D.Dialer.faults l.fn.dialer))
      (side (g.T.Turns.pass l.turns) (g.C.Clock.readings l.clock) (g.D.Dialer.calls l.dialer) (g.D.Dialer.faults l.dialer)) actions;
  stands : Stands l.patience l.fn.call actions l.next;
  lawful : Lawful (g.T.Turns.pass l.fn.turns) → Lawful (g.T.Turns.pass l.turns);
  patient : l.patience ≡ Never → may_wait l.next ≡ false;
  held : g.T.Turns.held l.turns ≡ g.T.Turns.held l.fn.turns;
  replied : weight l.next ≡ 2 → Grew (g.T.Turns.pass l.fn.turns) (g.T.Turns.pass l.turns);
}

abbrev pub decreases-loop-then : goal.decreases-loop-then
decreases-loop-then g l = 3 * (2 ^ 64 - length (g.T.Turns.pass l.turns).seen) + weight l.next
