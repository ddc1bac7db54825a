use Rattle.std.proofs.Common.{◌++◌, [], refl, ◌∙◌, arith}
use Rattle.drb_session.proofs.Joining.{runs_end, replies_grow, seen_longer}
use Rattle.drb_session.proofs.Small.{did_none, did_on}
use Rattle.drb_session.proofs.running.run.Goals as goal

pub loop-then-init : goal.loop-then-init
loop-then-init g c = record {
  actions = [];
  did = did_none _ _;
  stands = c.begin-next.ensures.stands;
  lawful = λ h. h;
  held = refl;
  patient = c.begin-next.ensures.patient;
  replied = λ e. absurd (omega (arith, e, c.begin-next.ensures.no_reply));
}

pub loop-then-preserved : goal.loop-then-preserved
loop-then-preserved g c =
    let i = c.loop-then.invariant in
    let k = c.in-Going.ensures.steps c.args.call i.actions i.stands in
    record {
      actions = i.actions ++ k.more;
      did = did_on _ _ _ _ i.actions k.more i.did k.did;
      stands = k.comes;
      lawful = λ h. c.step.ensures.lawful (i.lawful h);
      held = c.step.ensures.held ∙ i.held;
      patient = c.in-Going.ensures.patient;
      replied = λ e. replies_grow (g.T.Turns.pass c.args.turns.now) (g.T.Turns.pass c.loop-then.turns) (g.T.Turns.pass c.step.new.turns) c.loop-then.next c.in-Going.then (seen_longer _ _ _ i.did.sees) c.in-Going.ensures.nearer e;
    }

pub returns-in-Ended-clause-runs : goal.returns-in-Ended-clause-runs
returns-in-Ended-clause-runs g c =
    let i = c.loop-then.invariant in
    runs_end _ _ _ _ _ _ i.actions c.in-Ended.result i.did (c.in-Ended.ensures.steps c.args.call i.actions i.stands)
