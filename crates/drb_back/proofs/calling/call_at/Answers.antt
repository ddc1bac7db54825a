use Rattle.drb_back.proofs.Making.{dialled_asked}
use Rattle.drb_back.proofs.calling.call_at.Goals as goal

pub returns-clause-calls : goal.returns-clause-calls
returns-clause-calls g c = dialled_asked _ _ _ c.ask-back.result c.dial.result _ _ _ _ _ _ _ c.in-Ok.is c.ask-back.ensures.later c.hang_up.ensures.later c.dial.ensures.calls c.ask-back.ensures.calls c.hang_up.ensures.calls
