use Rattle.std.proofs.Common.{sym, ◌∙◌}
use Rattle.std.specs.Prelude.{Ok, Err}
use Rattle.drb_session.proofs.Joining.{made_at_last, none_then}
use Rattle.drb_session.proofs.making.make.Goals as goal

pub returns-in-Done-clause-made : goal.returns-in-Done-clause-made
returns-in-Done-clause-made g c = made_at_last _ _ _ _ _ _ _ c.args.event (Ok c.in-Done.out) c.loop-out.invariant.same c.loop-out.invariant.none c.in-Done.ensures.looks

pub returns-in-Halted-clause-made : goal.returns-in-Halted-clause-made
returns-in-Halted-clause-made g c = made_at_last _ _ _ _ _ _ _ c.args.event (Err c.in-Halted.halt) c.loop-out.invariant.same c.loop-out.invariant.none c.in-Halted.ensures.looks

pub loop-out-preserved : goal.loop-out-preserved
loop-out-preserved g c = record {
  same = c.event-event.ensures ∙ sym c.in-Again.ensures.looks.1 ∙ c.loop-out.invariant.same;
  none = none_then _ _ _ _ _ _ c.loop-out.invariant.none c.in-Again.ensures.looks.0;
  held = c.look.ensures.held ∙ c.loop-out.invariant.held;
}
