use Rattle.drb_session.proofs.Wholes.{replies_end, replies_written}
use Rattle.drb_session.proofs.serving.serve_request.Goals as goal

pub returns-in-Err-clause-replies : goal.returns-in-Err-clause-replies
returns-in-Err-clause-replies g c = replies_end _ _ _ _ _ _ _ _ c.in-Err.halt _ c.end_of.ensures c.in-Err.ensures.answers

pub returns-clause-replies : goal.returns-clause-replies
returns-clause-replies g c = replies_written _ _ _ _ _ _ _ _ _ _ c.write_out.result c.in-Ok.ensures.answers c.write_out.ensures.writes
