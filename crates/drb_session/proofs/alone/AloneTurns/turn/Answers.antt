use Rattle.drb_session.proofs.OfSpace.{tries, lawful}
use Rattle.drb_session.proofs.alone.AloneTurns.turn.Goals as goal

pub returns-clause-tries : goal.returns-clause-tries
returns-clause-tries g c = tries c.args.self.now.caller c.args.at c.args.event c.args.self.now.space.now c.turn.new.self c.turn.result c.turn.ensures.turns

pub returns-clause-lawful : goal.returns-clause-lawful
returns-clause-lawful g c = lawful c.args.self.now.caller c.turn.new.self c.turn.ensures.legal
