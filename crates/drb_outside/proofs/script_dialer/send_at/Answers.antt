use Rattle.drb_outside.proofs.Dialing.{up_at, sent_at}
use Rattle.drb_outside.proofs.script_dialer.send_at.Goals as goal

pub returns-clause-up : goal.returns-clause-up
returns-clause-up c = up_at c.args.lines.now c.args.last c.index-lines-last.result c.requires

pub returns-clause-sent : goal.returns-clause-sent
returns-clause-sent c = λ is. sent_at c.args.piece.now c.args.lines.now c.args.last c.index-lines-last.result c.send.new.self c.requires (c.send.ensures.sent is)
