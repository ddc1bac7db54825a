use Rattle.std.proofs.Common.{sym, ◌∙◌}
use Rattle.drb_session.proofs.Joining.{polls_made, polls_none}
use Rattle.drb_session.proofs.polling.poll_turn.Goals as goal

pub returns-in-Done-clause-polls : goal.returns-in-Done-clause-polls
returns-in-Done-clause-polls g c = polls_made _ _ _ _ _ _ _ _ c.in-Done.ensures.looks c.turned.ensures.stands c.in-Done.ensures.glimpses

pub returns-in-Again-clause-polls : goal.returns-in-Again-clause-polls
returns-in-Again-clause-polls g c = polls_none _ _ _ _ _ _ _ (c.in-Again.ensures.looks.1 ∙ sym c.event.ensures) c.in-Again.ensures.looks.0 c.in-Again.ensures.glimpses
